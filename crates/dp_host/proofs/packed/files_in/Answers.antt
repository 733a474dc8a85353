use Rattle.std.proofs.Common.{◌≡◌, [], ◌∷◌, ◌++◌, length, sym, ap, subst, arith, length-append}
use Rattle.dp_host.specs.Packing.{AreFiles, ArePacked, NotPacked}
use Rattle.dp_host.specs.declared.packed.Unread.TheVariants.{Form}
use Rattle.dp_host.proofs.Files.{AreNamed, Taken, named_more, taken_more, all_packed, pushed, left_first, left_more, none_left, too_many, ok_then, err_then}
use Rattle.dp_host.proofs.packed.files_in.Goals as goal

pub loop-count-init : goal.loop-count-init
loop-count-init c = record {
  taken = λ later are. subst (λ l. AreFiles c.args.packed.now (l ++ later)) (sym c.new-files.ensures.items) are;
  left = left_first c.args.packed.now;
  many = ap length c.new-files.ensures.items;
  most = omega arith;
  names = subst AreNamed (sym c.new-files.ensures.items) tt;
}

pub loop-count-preserved : goal.loop-count-preserved
loop-count-preserved c =
    let inv = c.loop-count.invariant in
    let files = c.loop-count.files.items in
    let file = c.in-Some.file in
    let is = pushed c.push.result _ _ _ c.if-is_err.ensures.value c.push.ensures.items in
    let long = ap length is in
    record {
      taken = subst (λ l. Taken c.args.packed.now l c.in-Some.after.now) (sym is)
          (taken_more c.args.packed.now c.loop-count.rest.now c.in-Some.after.now files file c.in-Some.ensures.some inv.taken);
      left = left_more c.args.packed.now c.loop-count.rest.now c.in-Some.after.now file c.loop-count._count c.in-Some.ensures.some inv.left;
      many = omega (arith, long, length-append files (file ∷ []), inv.many);
      most = omega (arith, c.loop-count-test.true);
      names = subst AreNamed (sym is) (named_more files file inv.names c.in-Some.ensures.name);
    }

pub returns-in-None-clause-ok : goal.returns-in-None-clause-ok
returns-in-None-clause-ok c =
    let inv = c.loop-count.invariant in
    ok_then (λ all. (all.items ≡ c.loop-count.files.items) × (c.loop-count.rest.now ≡ [])) (λ all. ArePacked c.args.packed.now all.items) c.whole.result
    (λ all (same, none). subst (ArePacked c.args.packed.now) (sym same)
    (all_packed c.args.packed.now c.loop-count.rest.now c.loop-count.files.items c.loop-count._count inv.taken none inv.many inv.most inv.names))
    c.whole.ensures.ok

pub returns-in-None-clause-form : goal.returns-in-None-clause-form
returns-in-None-clause-form c =
    err_then (λ why. c.loop-count.rest.now ≡ [] → ⊥) (λ why. why ≡ Form → NotPacked c.args.packed.now) c.whole.result
    (λ why some form. none_left c.args.packed.now c.loop-count.rest.now c.loop-count._count c.loop-count.invariant.left c.in-None.ensures.none some)
    c.whole.ensures.err

pub returns-clause-ok : goal.returns-clause-ok
returns-clause-ok c =
    let inv = c.loop-count.invariant in
    ok_then (λ all. (all.items ≡ c.loop-count.files.items) × (c.loop-count.rest.now ≡ [])) (λ all. ArePacked c.args.packed.now all.items) c.whole-2.result
    (λ all (same, none). subst (ArePacked c.args.packed.now) (sym same)
    (all_packed c.args.packed.now c.loop-count.rest.now c.loop-count.files.items c.loop-count._count inv.taken none inv.many inv.most inv.names))
    c.whole-2.ensures.ok

pub returns-clause-form : goal.returns-clause-form
returns-clause-form c =
    err_then (λ why. c.loop-count.rest.now ≡ [] → ⊥) (λ why. why ≡ Form → NotPacked c.args.packed.now) c.whole-2.result
    (λ why some form. too_many c.args.packed.now c.loop-count.rest.now c.loop-count._count c.loop-count.invariant.left
    (omega (arith, c.loop-count-test.false)) some) c.whole-2.ensures.err
