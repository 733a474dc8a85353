-- The first of the queue replace the blanks after the others.
use Rattle.std.proofs.Common.{rules, ◌≡◌, ◌≤◌, ◌-◌, ◌++◌, ℕ, [], nat_le, true, if◌then◌else◌, length, take, ap, ap₂, ◌∙◌}
use Rattle.std.proofs.Math.Seq.{take-append_seam}
use Rattle.std.proofs.lemmas.List.{places, append-nil}
use Rattle.arrayvec.proofs.ArrayVecLemmas.{items-with_items}
use borrow.Rule.Slice.PartMut.{put_mid, post_of}
use Rattle.dp_ring.specs.Rings.{RingView, without_first}
use Rattle.dp_pool.proofs.indexes.move_in.Goals as goal

pub returns-clause-cached : goal.returns-clause-cached
returns-clause-cached c =
    let all = c.as_mut_slice.result.now in
    let held = c.len-held.result in
    let got = c.dequeue_bulk.new.values in
    let after = put_mid held (length all - held) all got in
    let long : length after ≡ length c.extend.new.cached.items = search (rules, places) in
    let front : take held all ≡ c.args.cached.now.items =
    ap₂ take c.len-held.ensures.value (c.as_mut_slice.ensures.value ∙ c.extend.ensures) ∙ take-append_seam c.args.cached.now.items _ in
    let many : length got ≡ c.args.number = search (rules, places) in
    let is : got ≡ take c.args.number c.args.queue.now.entries = search (rules, places) in
    let none : post_of held (length all - held) all ≡ [] = search (rules, places) in
    items-with_items c.extend.new.cached after long
    ∙ ((λ i. front i ++ (is i ++ none i)) ∙ ap (λ xs. c.args.cached.now.items ++ xs) (append-nil (take c.args.number c.args.queue.now.entries)))

shorter : (old new : RingView) (m n : ℕ) → m ≡ n → n ≤ length old.entries →
    new ≡ (if nat_le m (length old.entries) then without_first old m else old) → new ≡ without_first old n
shorter old new m n is there rest =
    let some : nat_le m (length old.entries) ≡ true = search (rules, is, there) in
    rest ∙ rw (some, is)

pub returns-clause-queue : goal.returns-clause-queue
returns-clause-queue c =
    shorter c.args.queue.now c.dequeue_bulk.new.self _ c.args.number (search (rules, places)) c.requires.there c.dequeue_bulk.ensures.rest
