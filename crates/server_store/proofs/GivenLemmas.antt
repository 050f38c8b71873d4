-- What is put into the list of a group is given to the group.
use Rattle.std.proofs.Common.{◌≡◌, Option, Some, None, map, inl, inr}
use Rattle.std.specs.Global.{Vec}
use Rattle.server_store.specs.Pending.{IsGiven, recounted, with_more}
use Rattle.server_store.specs.PendingList.{IsPut, PendingSlots}
use Rattle.server_store.specs.declared.group.Consumer.{Consumer}
use Rattle.server_store.specs.declared.group.Group.{Group}
use Rattle.server_store.specs.declared.group.Pending.{Pending}

pub given_by : (replaced : Option Pending) (p : Pending) (old : Group) (list : PendingSlots) (consumers : Vec Consumer)
    → IsPut p old.pending.items list.items replaced
    → consumers.items ≡ map (with_more p.consumer) (recounted replaced old.consumers.items)
    → IsGiven p old (record old { pending = list; consumers = consumers })
given_by (Some was) p old list consumers put counts = inl (record {
  index = put.index;
  was = was;
  within = put.within;
  stood = put.stood;
  named = put.named;
  is = put.is;
  counts = counts;
})
given_by None p old list consumers put counts = inr (record {
  index = put.index;
  within = put.within;
  place = λ up. put.place;
  is = put.is;
  counts = counts;
})
