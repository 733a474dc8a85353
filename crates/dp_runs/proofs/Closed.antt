-- One more output is written out, and the counts of one more port are lowered.
use Rattle.std.proofs.Common.{◌≡◌, ℕ, zero, suc, ◌+◌, ◌<◌, List, [], ◌∷◌, ◌++◌, length, take, drop, map, Option, ap, sym, subst, arith}
use Rattle.std.specs.Prelude.{slice_index_or, slice_set}
use Rattle.dp_captures.specs.declared.outlet.Incomplete.{Incomplete}
use Rattle.dp_engine.specs.declared.report.PortReport.{PortReport}
use Rattle.dp_runs.specs.Closing.{IsClosed, AreClosed, lowered, lowered_from, loss_at}

pub closed_more : {O : Type 0} (contents taken : O → Option (List ℕ)) (olds news : List O) (k : ℕ) (new d : O) (lost : List (Option Incomplete))
    (l : Option Incomplete) → k < length olds → drop k news ≡ drop k olds → AreClosed (map contents (take k olds)) (map taken (take k news)) lost
    → IsClosed (contents (slice_index_or news k d)) (taken new) l
    → AreClosed (map contents (take (suc k) olds)) (map taken (take (suc k) (slice_set news k new))) (lost ++ l ∷ [])
closed_more contents taken [] news k new d lost l within rest closed here = absurd (omega (arith, within))
closed_more contents taken (o ∷ olds) [] zero new d lost l within rest closed here = cc
closed_more contents taken (o ∷ olds) [] (suc k) new d lost l within rest closed here = absurd closed
closed_more {O} contents taken (o ∷ olds) (n ∷ news) zero new d [] l within rest closed here =
    let same : n ≡ o = cc in
    (subst (λ (x : O). IsClosed (contents x) (taken new) l) same here, tt)
closed_more contents taken (o ∷ olds) (n ∷ news) zero new d (x ∷ lost) l within rest closed here = absurd closed
closed_more contents taken (o ∷ olds) (n ∷ news) (suc k) new d [] l within rest closed here = absurd closed
closed_more contents taken (o ∷ olds) (n ∷ news) (suc k) new d (x ∷ lost) l within rest closed here =
    (closed.0, closed_more contents taken olds news k new d lost l (omega (arith, within)) rest closed.1 here)

-- the outputs after it do not change
pub rest_stays : {O : Type 0} (olds news : List O) (k : ℕ) (new : O) → length news ≡ length olds → k < length olds → drop k news ≡ drop k olds
    → drop (suc k) (slice_set news k new) ≡ drop (suc k) olds
rest_stays [] news k new many within rest = absurd (omega (arith, within))
rest_stays (o ∷ olds) [] k new many within rest = absurd (omega (arith, many))
rest_stays (o ∷ olds) (n ∷ news) zero new many within rest = cc
rest_stays (o ∷ olds) (n ∷ news) (suc k) new many within rest = rest_stays olds news k new (omega (arith, many)) (omega (arith, within)) rest

-- one more port
pub lowered_more : (k n : ℕ) (ports : List PortReport) (i : ℕ) (d : PortReport) (lost : List (Option Incomplete)) → n ≡ k + i → i < length ports
    → lowered_from k (take (suc i) ports) lost ≡ lowered_from k (take i ports) lost ++ lowered (slice_index_or ports i d) (loss_at lost n) ∷ []
lowered_more k n [] i d lost is within = absurd (omega (arith, within))
lowered_more k n (p ∷ ports) zero d lost is within =
    let same : n ≡ k = omega (arith, is) in
    ap (λ (m : ℕ). lowered p (loss_at lost m) ∷ []) (sym same)
lowered_more k n (p ∷ ports) (suc i) d lost is within =
    ap (λ (l : List PortReport). lowered p (loss_at lost k) ∷ l) (lowered_more (suc k) n ports i d lost (omega (arith, is)) (omega (arith, within)))

-- what is seen of each stays the same where one is replaced by one of which the same is seen
pub map_set_same : {O A : Type 0} (f : O → A) (xs : List O) (k : ℕ) (x d : O) → k < length xs → f x ≡ f (slice_index_or xs k d)
    → map f (slice_set xs k x) ≡ map f xs
map_set_same f [] k x d within same = absurd (omega (arith, within))
map_set_same {O} {A} f (y ∷ xs) zero x d within same = ap (λ (a : A). a ∷ map f xs) same
map_set_same {O} {A} f (y ∷ xs) (suc k) x d within same =
    ap (λ (l : List A). f y ∷ l) (map_set_same f xs k x d (omega (arith, within)) same)
