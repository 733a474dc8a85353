-- `remove_front`: what is left moves to the front.
use Rattle.std.proofs.Common.{rules, ◌≡◌, ◌+◌, ◌-◌, ◌≤◌, ◌++◌, length, take, drop, ap, sym, ◌∙◌, arith, length-drop, length-take-le}
use lib.Seq.{paste, take-add, take-take}
use Rattle.std.proofs.lemmas.List.{with_items_is, places}
use Rattle.std.proofs.lemmas.List.Edits.{take-paste}
use Rattle.dp_pcap.proofs.pending.Pending.remove_front.Goals as goal

pub returns-clause-bytes : goal.returns-clause-bytes
returns-clause-bytes c =
    let all = c.as_mut_slice.result.now in
    let xs = c.args.self.now.bytes.items in
    let n = c.args.count in
    let left = c.args.self.now.len - n in
    let same : left ≡ 0 + left = omega arith in
    let value : all ≡ xs = c.as_mut_slice.ensures.value in
    let held : length (take c.args.self.now.len xs) ≡ c.args.self.now.len = length-take-le c.args.self.now.len xs (omega (arith, c.args.self.now.fits)) in
    let within : n ≤ c.args.self.now.len = omega (arith, c.requires.within, held) in
    let whole : c.args.self.now.len ≡ n + left = omega (arith, within) in
    let size : left ≤ length (drop n all) = omega (arith, length-drop n all, c.args.self.now.fits, ap length value) in
    let moved = ap (take left) (with_items_is c.args.self.now.bytes c.copy_within.new.self (search (rules, places)) ∙ c.copy_within.ensures.after)
    ∙ ap (λ k. take k (paste all 0 (drop n all) left)) same ∙ take-paste all 0 (drop n all) left (omega arith) size
    ∙ ap (λ l. take left (drop n l)) value in
    ap (λ k. take k xs) whole ∙ take-add n left xs ∙ ap (λ l. l ++ take left (drop n xs)) (sym (take-take n c.args.self.now.len xs within))
    ∙ ap (λ l. take n (take c.args.self.now.len xs) ++ l) (sym moved)
