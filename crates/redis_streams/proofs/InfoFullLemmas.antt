-- The last of the fields that are read of a group and of a stream.
use Rattle.std.proofs.Common.{◌≡◌, List, [], Option, None, codes, ap, sym, subst, ◌∙◌, inl, inr}
use Rattle.redis_resp.specs.Tree.{Tree}
use Rattle.redis_resp.specs.Reading.{list_reading}
use Rattle.redis_resp.specs.Refusal.{Refuses, RefusesField, RefusesList}
use Rattle.redis_resp.specs.declared.value.error.ParsingError.{ParsingError}
use Rattle.redis_streams.specs.Info.{NamedFields, field_or}
use Rattle.redis_streams.specs.InfoFull.{FullConsumer, FullGroup, full_consumer_reading, full_group_of}
use Rattle.redis_streams.specs.InfoFull.{full_group_reading, full_stream_of}
use Rattle.redis_streams.specs.InfoFullRefusal.{RefusesFullConsumer, RefusesFullGroup, RefusesFullGroupField}
use Rattle.redis_streams.specs.InfoFullRefusal.{RefusesFullField}
use Rattle.redis_streams.proofs.InfoLemmas.{never}

no_consumers : (f : NamedFields) → field_or [] (list_reading full_consumer_reading) (f (codes "consumers")) ≡ None
    → full_group_of f ≡ None
no_consumers f h = simp (h, never)

no_groups : (f : NamedFields) → field_or [] (list_reading full_group_reading) (f (codes "groups")) ≡ None
    → full_stream_of f ≡ None
no_groups f h = simp (h, never)

-- a field that is a list of consumers
abbrev RefusesConsumersField : List FullConsumer → Option Tree → ParsingError → Type 0
RefusesConsumersField none = Refuses (field_or none (list_reading full_consumer_reading))
    (RefusesField (RefusesList (Refuses full_consumer_reading RefusesFullConsumer)))

-- a field that is a list of groups
abbrev RefusesGroupsField : List FullGroup → Option Tree → ParsingError → Type 0
RefusesGroupsField none = Refuses (field_or none (list_reading full_group_reading))
    (RefusesField (RefusesList (Refuses full_group_reading RefusesFullGroup)))

-- a group is refused if its consumers are
pub refused_by_consumers : (f : NamedFields) (none : List FullConsumer) (t : Option Tree) (error : ParsingError)
    → none ≡ [] → t ≡ f (codes "consumers")
    → Refuses (field_or none (list_reading full_consumer_reading))
    (RefusesField (RefusesList (Refuses full_consumer_reading RefusesFullConsumer))) t error
    → Refuses full_group_of RefusesFullGroupField f error
refused_by_consumers f none t error empty is why =
    let there : RefusesConsumersField [] (f (codes "consumers")) error =
    subst (λ (xs : List FullConsumer). RefusesConsumersField xs (f (codes "consumers")) error) empty
    (subst (λ (o : Option Tree). RefusesConsumersField none o error) is why) in
    (inr (inr (inr (inr (inr (inr there.0))))), λ h. no_consumers f (there.1 h))

-- a stream is refused if its groups are
pub refused_by_groups : (f : NamedFields) (none : List FullGroup) (t : Option Tree) (error : ParsingError) → none ≡ []
    → t ≡ f (codes "groups")
    → Refuses (field_or none (list_reading full_group_reading))
    (RefusesField (RefusesList (Refuses full_group_reading RefusesFullGroup))) t error
    → Refuses full_stream_of RefusesFullField f error
refused_by_groups f none t error empty is why =
    let there : RefusesGroupsField [] (f (codes "groups")) error =
    subst (λ (xs : List FullGroup). RefusesGroupsField xs (f (codes "groups")) error) empty
    (subst (λ (o : Option Tree). RefusesGroupsField none o error) is why) in
    (inr (inr (inr (inr (inr (inr (inr (inr there.0))))))), λ h. no_groups f (there.1 h))
