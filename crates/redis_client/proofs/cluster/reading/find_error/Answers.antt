use Rattle.std.proofs.Common.{true, false, sym, codes, refl}
use Rattle.redis_client.proofs.ClusterLemmas.SentenceLemmas.{by_tests, tested}
use Rattle.redis_client.proofs.cluster.reading.find_error.Goals as goal

pub returns-then-eq : goal.returns-then-eq
returns-then-eq c =
    sym (by_tests c.args.code.now true _ _ _ _ _
    (tested _ (codes "TRYAGAIN") _ _ true c.as_slice.ensures c.eq.ensures c.if-eq.true)
    refl
    refl
    refl
    refl
    refl)

pub returns-then-eq-2 : goal.returns-then-eq-2
returns-then-eq-2 c =
    sym (by_tests c.args.code.now false true _ _ _ _
    (tested _ (codes "TRYAGAIN") _ _ false c.as_slice.ensures c.eq.ensures c.if-eq.false)
    (tested _ (codes "CLUSTERDOWN") _ _ true c.as_slice-else-eq.ensures c.eq-else-eq.ensures c.if-eq-2.true)
    refl
    refl
    refl
    refl)

pub returns-then-eq-3 : goal.returns-then-eq-3
returns-then-eq-3 c =
    sym (by_tests c.args.code.now false false true _ _ _
    (tested _ (codes "TRYAGAIN") _ _ false c.as_slice.ensures c.eq.ensures c.if-eq.false)
    (tested _ (codes "CLUSTERDOWN") _ _ false c.as_slice-else-eq.ensures c.eq-else-eq.ensures c.if-eq-2.false)
    (tested _ (codes "LOADING") _ _ true c.as_slice-else-eq-2.ensures c.eq-else-eq-2.ensures c.if-eq-3.true)
    refl
    refl
    refl)

pub returns-then-eq-4 : goal.returns-then-eq-4
returns-then-eq-4 c =
    sym (by_tests c.args.code.now false false false true _ _
    (tested _ (codes "TRYAGAIN") _ _ false c.as_slice.ensures c.eq.ensures c.if-eq.false)
    (tested _ (codes "CLUSTERDOWN") _ _ false c.as_slice-else-eq.ensures c.eq-else-eq.ensures c.if-eq-2.false)
    (tested _ (codes "LOADING") _ _ false c.as_slice-else-eq-2.ensures c.eq-else-eq-2.ensures c.if-eq-3.false)
    (tested _ (codes "MASTERDOWN") _ _ true c.as_slice-else-eq-3.ensures c.eq-else-eq-3.ensures c.if-eq-4.true)
    refl
    refl)

pub returns-then-eq-5 : goal.returns-then-eq-5
returns-then-eq-5 c =
    sym (by_tests c.args.code.now false false false false true _
    (tested _ (codes "TRYAGAIN") _ _ false c.as_slice.ensures c.eq.ensures c.if-eq.false)
    (tested _ (codes "CLUSTERDOWN") _ _ false c.as_slice-else-eq.ensures c.eq-else-eq.ensures c.if-eq-2.false)
    (tested _ (codes "LOADING") _ _ false c.as_slice-else-eq-2.ensures c.eq-else-eq-2.ensures c.if-eq-3.false)
    (tested _ (codes "MASTERDOWN") _ _ false c.as_slice-else-eq-3.ensures c.eq-else-eq-3.ensures c.if-eq-4.false)
    (tested _ (codes "READONLY") _ _ true c.as_slice-else-eq-4.ensures c.eq-else-eq-4.ensures c.if-eq-5.true)
    refl)

pub returns-then-eq-6 : goal.returns-then-eq-6
returns-then-eq-6 c =
    sym (by_tests c.args.code.now false false false false false true
    (tested _ (codes "TRYAGAIN") _ _ false c.as_slice.ensures c.eq.ensures c.if-eq.false)
    (tested _ (codes "CLUSTERDOWN") _ _ false c.as_slice-else-eq.ensures c.eq-else-eq.ensures c.if-eq-2.false)
    (tested _ (codes "LOADING") _ _ false c.as_slice-else-eq-2.ensures c.eq-else-eq-2.ensures c.if-eq-3.false)
    (tested _ (codes "MASTERDOWN") _ _ false c.as_slice-else-eq-3.ensures c.eq-else-eq-3.ensures c.if-eq-4.false)
    (tested _ (codes "READONLY") _ _ false c.as_slice-else-eq-4.ensures c.eq-else-eq-4.ensures c.if-eq-5.false)
    (tested _ (codes "NOREPLICAS") _ _ true c.as_slice-else-eq-5.ensures c.eq-else-eq-5.ensures c.if-eq-6.true))

pub returns-else-eq-6 : goal.returns-else-eq-6
returns-else-eq-6 c =
    sym (by_tests c.args.code.now false false false false false false
    (tested _ (codes "TRYAGAIN") _ _ false c.as_slice.ensures c.eq.ensures c.if-eq.false)
    (tested _ (codes "CLUSTERDOWN") _ _ false c.as_slice-else-eq.ensures c.eq-else-eq.ensures c.if-eq-2.false)
    (tested _ (codes "LOADING") _ _ false c.as_slice-else-eq-2.ensures c.eq-else-eq-2.ensures c.if-eq-3.false)
    (tested _ (codes "MASTERDOWN") _ _ false c.as_slice-else-eq-3.ensures c.eq-else-eq-3.ensures c.if-eq-4.false)
    (tested _ (codes "READONLY") _ _ false c.as_slice-else-eq-4.ensures c.eq-else-eq-4.ensures c.if-eq-5.false)
    (tested _ (codes "NOREPLICAS") _ _ false c.as_slice-else-eq-5.ensures c.eq-else-eq-5.ensures c.if-eq-6.false))
