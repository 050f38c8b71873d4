-- The OpenMetrics text with the figures of streams.
use Rattle.std.specs.Prelude.{ℕ, ◌/◌, ◌%◌, ◌==◌, Bool, true, false, List, [], ◌∷◌, ◌++◌, Option, Some, None, codes, decimal}
use Rattle.std.specs.Prelude.{flat_map, if◌then◌else◌, string_bytes}
use Rattle.stream_top.specs.declared.figures.ConsumerFigures.{ConsumerFigures}
use Rattle.stream_top.specs.declared.figures.GroupFigures.{GroupFigures}
use Rattle.stream_top.specs.declared.figures.StreamFigures.{StreamFigures}
use Rattle.stream_top.specs.declared.open_metrics.Metric.{Metric}
use Rattle.stream_top.specs.declared.open_metrics.Metric.TheVariants.{Length, LastGenerated, Lag, Pending, LastDelivered}
use Rattle.stream_top.specs.declared.open_metrics.Metric.TheVariants.{OldestPending, MaxDeliveries, ConsumerPending}
use Rattle.stream_top.specs.declared.open_metrics.Metric.TheVariants.{ConsumerIdle}

-- the name of a metric
abbrev pub name_text : Metric → List ℕ
name_text Length = codes "redis_stream_length"
name_text LastGenerated = codes "redis_stream_last_generated_timestamp_seconds"
name_text Lag = codes "redis_stream_group_lag"
name_text Pending = codes "redis_stream_group_pending"
name_text LastDelivered = codes "redis_stream_group_last_delivered_timestamp_seconds"
name_text OldestPending = codes "redis_stream_group_oldest_pending_seconds"
name_text MaxDeliveries = codes "redis_stream_group_max_deliveries"
name_text ConsumerPending = codes "redis_stream_consumer_pending"
name_text ConsumerIdle = codes "redis_stream_consumer_idle_seconds"

-- a space, the description for people, and the end of the line
abbrev pub help_text : Metric → List ℕ
help_text Length = codes " Entries in the stream.\n"
help_text LastGenerated = codes " Time in the id that was generated last.\n"
help_text Lag = codes " Entries that the group has not read yet.\n"
help_text Pending = codes " Entries that were delivered and not acknowledged.\n"
help_text LastDelivered = codes " Time in the id that was delivered last.\n"
help_text OldestPending = codes " Time since that in the id of the first pending entry.\n"
help_text MaxDeliveries = codes " Deliveries of the pending entry that has most of them.\n"
help_text ConsumerPending = codes " Entries that are pending for the consumer.\n"
help_text ConsumerIdle = codes " Time since the consumer was seen.\n"

-- whether the metric is a time, measured in milliseconds
abbrev pub is_time : Metric → Bool
is_time Length = false
is_time LastGenerated = true
is_time Lag = false
is_time Pending = false
is_time LastDelivered = true
is_time OldestPending = true
is_time MaxDeliveries = false
is_time ConsumerPending = false
is_time ConsumerIdle = true

-- the number for a stream, if the metric is one of streams
abbrev pub stream_number : Metric → StreamFigures → Option ℕ
stream_number Length s = Some s.length
stream_number LastGenerated s = s.last_time
stream_number Lag s = None
stream_number Pending s = None
stream_number LastDelivered s = None
stream_number OldestPending s = None
stream_number MaxDeliveries s = None
stream_number ConsumerPending s = None
stream_number ConsumerIdle s = None

-- the number for a group, if the metric is one of groups
abbrev pub group_number : Metric → GroupFigures → Option ℕ
group_number Length g = None
group_number LastGenerated g = None
group_number Lag g = g.lag
group_number Pending g = Some g.pending
group_number LastDelivered g = g.last_time
group_number OldestPending g = g.oldest_pending
group_number MaxDeliveries g = Some g.deliveries
group_number ConsumerPending g = None
group_number ConsumerIdle g = None

-- the number for a consumer, if the metric is one of consumers
abbrev pub consumer_number : Metric → ConsumerFigures → Option ℕ
consumer_number Length c = None
consumer_number LastGenerated c = None
consumer_number Lag c = None
consumer_number Pending c = None
consumer_number LastDelivered c = None
consumer_number OldestPending c = None
consumer_number MaxDeliveries c = None
consumer_number ConsumerPending c = Some c.pending
consumer_number ConsumerIdle c = Some c.idle

-- milliseconds in seconds, with three digits after the point
unfoldable pub seconds_text : ℕ → List ℕ
seconds_text n = decimal (n / 1000)
    ++ 46 ∷ (decimal (n / 100 % 10) ++ (decimal (n / 10 % 10) ++ decimal (n % 10)))

-- the number of a sample
abbrev pub number_text : Metric → ℕ → List ℕ
number_text m n = if is_time m then seconds_text n else decimal n

-- A backslash, a quote and a line feed are written as `\\`, `\"` and `\n`. The byte 0 is written as `\\x00`.
-- Other bytes are unchanged.
abbrev pub label_byte : ℕ → List ℕ
label_byte b =
    if b == 92 then 92 ∷ 92 ∷ []
    else if b == 34 then 92 ∷ 34 ∷ []
    else if b == 10 then 92 ∷ 110 ∷ []
    else if b == 0 then 92 ∷ 92 ∷ 120 ∷ 48 ∷ 48 ∷ []
    else b ∷ []

-- the text of a label, byte by byte
abbrev pub label_text : List ℕ → List ℕ
label_text name = flat_map label_byte name

-- the labels, and one more label that begins with `begin` and has the value `name`
unfoldable pub labelled : List ℕ → List ℕ → List ℕ → List ℕ
labelled labels begin name = labels ++ (begin ++ (label_text name ++ 34 ∷ []))

-- a sample, or nothing if there is no number
unfoldable pub sample_text : Metric → List ℕ → Option ℕ → List ℕ
sample_text m labels None = []
sample_text m labels (Some n) = name_text m ++ 123 ∷ (labels ++ 125 ∷ 32 ∷ (number_text m n ++ 10 ∷ []))

-- the labels of a stream
abbrev pub stream_labels : StreamFigures → List ℕ
stream_labels s = labelled [] (codes "stream=\"") (string_bytes s.key)

-- the labels of a group: those of its stream in `above`, and its name
abbrev pub group_labels : List ℕ → GroupFigures → List ℕ
group_labels above g = labelled above (codes ",group=\"") (string_bytes g.name)

-- the labels of a consumer: those of its group in `above`, and its name
abbrev pub consumer_labels : List ℕ → ConsumerFigures → List ℕ
consumer_labels above c = labelled above (codes ",consumer=\"") (string_bytes c.name)

-- the sample of a consumer, with the labels of its group
unfoldable pub consumer_samples : Metric → List ℕ → ConsumerFigures → List ℕ
consumer_samples m above c = sample_text m (consumer_labels above c) (consumer_number m c)

-- the samples of a group and its consumers, with the labels of its stream
unfoldable pub group_samples : Metric → List ℕ → GroupFigures → List ℕ
group_samples m above g = sample_text m (group_labels above g) (group_number m g)
    ++ flat_map (consumer_samples m (group_labels above g)) g.consumers.items

-- the samples of a stream, of its groups and of their consumers
unfoldable pub stream_samples : Metric → StreamFigures → List ℕ
stream_samples m s = sample_text m (stream_labels s) (stream_number m s)
    ++ flat_map (group_samples m (stream_labels s)) s.groups.items

-- the head of a metric: the type, the unit if it is a time, and the description
unfoldable pub head_text : Metric → List ℕ
head_text m = (codes "# TYPE " ++ (name_text m ++ codes " gauge\n"))
    ++ ((if is_time m then codes "# UNIT " ++ (name_text m ++ codes " seconds\n") else [])
    ++ (codes "# HELP " ++ (name_text m ++ help_text m)))

-- a metric: its head and its samples
unfoldable pub metric_text : Metric → List StreamFigures → List ℕ
metric_text m streams = head_text m ++ flat_map (stream_samples m) streams

-- the metrics of streams
abbrev pub of_streams : List StreamFigures → List ℕ
of_streams streams = metric_text Length streams ++ metric_text LastGenerated streams

-- the metrics of groups
abbrev pub of_groups : List StreamFigures → List ℕ
of_groups streams = metric_text Lag streams ++ (metric_text Pending streams ++ (metric_text LastDelivered streams
    ++ (metric_text OldestPending streams ++ metric_text MaxDeliveries streams)))

-- the metrics of consumers
abbrev pub of_consumers : List StreamFigures → List ℕ
of_consumers streams = metric_text ConsumerPending streams ++ metric_text ConsumerIdle streams

-- all metrics, and the end of the text
unfoldable pub text_of_metrics : List StreamFigures → List ℕ
text_of_metrics streams = of_streams streams ++ (of_groups streams ++ (of_consumers streams ++ codes "# EOF\n"))
