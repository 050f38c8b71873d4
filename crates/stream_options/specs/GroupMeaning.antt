-- The meaning of the kept names of a group and its consumer: the arguments that they wrote.
use Rattle.std.specs.Prelude.{map}
use Rattle.stream_options.specs.Read.{Group, group_with}
use Rattle.stream_options.specs.declared.options.group.Group as kept

-- the arguments of both names
abbrev pub group_of : kept.Group → Group
group_of g = group_with (map (λ arg. arg.items) g.group.0.items) (map (λ arg. arg.items) g.consumer.0.items)
