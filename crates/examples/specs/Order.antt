-- The meaning of an order, and the fields that are an order.
use Rattle.std.specs.Prelude.{◌≡◌, ◌⊎◌, ℕ, List, Option, Some, IsSome, option_map, option_and_then, option_to_list}
use Rattle.std.specs.Prelude.{is_some, if◌then◌else◌, [], ◌∷◌, codes, string_bytes}
use Rattle.redis.specs.Words.{Entry, Fields, RefusesFields, Tree, field_record, fields_reading}
use Rattle.redis.specs.Words.{text_reading, unsigned_reading}
use Rattle.redis_resp.specs.declared.value.error.ParsingError.{ParsingError}
use Rattle.redis_resp.specs.declared.value.error.ParsingError.TheVariants.{NotPairs, Memory}
use Rattle.examples.specs.declared.order.Order.{Order}

-- the number of an order, its customer, and its quantity
abbrev pub Meant : Type 0
Meant = ℕ × List ℕ × ℕ

-- the meaning of an `Order`
abbrev pub order_meaning : Order → Meant
order_meaning o = (o.id.0, string_bytes o.customer, o.quantity)

-- the order of these fields. All three fields must be present
abbrev pub order_of : Fields Tree → Option Meant
order_of fields = option_and_then (λ id. option_and_then (λ customer. option_map (λ quantity. (id, customer, quantity))
    (field_record (unsigned_reading 32) fields (codes "quantity")))
    (field_record text_reading fields (codes "customer")))
    (field_record (unsigned_reading 64) fields (codes "order"))

-- the order of a value that is a map of fields
abbrev pub order_reading : Tree → Option Meant
order_reading t = option_and_then order_of (fields_reading (λ u. Some u) t)

-- why decoding an order may fail: memory ran out, the fields are not an order (`NotPairs`), or the value is not
-- fields
abbrev pub RefusesOrder : Tree → ParsingError → Type 0
RefusesOrder t error = (error ≡ Memory) ⊎ ((error ≡ NotPairs) ⊎ RefusesFields t error)

-- the fields have the number of an order, and the text of a customer
abbrev pub NamesCustomer : Fields Tree → Type 0
NamesCustomer fields =
    IsSome (field_record (unsigned_reading 64) fields (codes "order"))
    × IsSome (field_record text_reading fields (codes "customer"))

-- the order of an entry, or an empty list if its fields are not an order
abbrev pub order_in : Entry → List Meant
order_in e = option_to_list (order_of e.fields)

-- the id of an entry whose fields are not an order, or an empty list
abbrev pub strange_in : Entry → List (List ℕ)
strange_in e = if is_some (order_of e.fields) then [] else e.id ∷ []
