-- The bytes of the reply that is read.
use Rattle.std.specs.Prelude.{ℕ, ◌-◌, ◌^◌, ◌%◌, false, List, [], ◌++◌, codes, decimal, length}
use Rattle.std.specs.Fmt.{format_spec, padded_integral}
use Rattle.test_costs.specs.Below.{below}
use Rattle.test_costs.specs.declared.answer.Form.{Form}
use Rattle.test_costs.specs.declared.answer.Form.TheVariants.{Array, Map}

-- a bulk string
unfoldable pub text_bytes : List ℕ → List ℕ
text_bytes text = codes "$" ++ (decimal (length text) ++ (codes "\r\n" ++ (text ++ codes "\r\n")))

-- a name and a value
abbrev pub field_bytes : List ℕ → List ℕ → List ℕ
field_bytes name value = text_bytes name ++ text_bytes value

-- a number in three digits, or more if it has more
abbrev pub three_digits : ℕ → List ℕ
three_digits n = padded_integral (format_spec 32 0 4 3 (2 ^ 64 - 1)) false [] (decimal n)

-- the header of an array of this number of members
unfoldable pub count_bytes : ℕ → List ℕ
count_bytes n = codes "*" ++ (decimal n ++ codes "\r\n")

-- the id of these milliseconds and this sequence number
unfoldable pub id_of : ℕ → ℕ → List ℕ
id_of thousandth n = codes "1700000000" ++ (three_digits thousandth ++ (codes "-" ++ decimal n))

-- the id of an entry
abbrev pub id_text : ℕ → List ℕ
id_text n = id_of (n % 1000) n

-- the first two fields of an entry
abbrev pub order_bytes : ℕ → List ℕ
order_bytes n = field_bytes (codes "order") (codes "order-" ++ decimal n)
    ++ field_bytes (codes "customer") (codes "cust-" ++ decimal (n % 1000))

-- the other two
abbrev pub goods_bytes : ℕ → List ℕ
goods_bytes n = field_bytes (codes "quantity") (decimal (n % 50))
    ++ field_bytes (codes "note") (codes "a text of " ++ decimal (n % 9))

-- the fields of an entry
abbrev pub fields_bytes : ℕ → List ℕ
fields_bytes n = order_bytes n ++ goods_bytes n

-- an entry
abbrev pub entry_bytes : ℕ → List ℕ
entry_bytes n = count_bytes 2 ++ (text_bytes (id_text n) ++ (count_bytes 8 ++ fields_bytes n))

-- the bytes before the name of the stream
abbrev pub form_bytes : Form → List ℕ
form_bytes Array = codes "*1\r\n*2\r\n"
form_bytes Map = codes "%1\r\n"

-- the bytes before the entries
abbrev pub head_bytes : Form → ℕ → List ℕ
head_bytes form count = form_bytes form
    ++ (text_bytes (codes "orders") ++ count_bytes count)

-- one stream with this number of entries
abbrev pub answer_bytes : Form → ℕ → List ℕ
answer_bytes form count = head_bytes form count ++ below entry_bytes count
