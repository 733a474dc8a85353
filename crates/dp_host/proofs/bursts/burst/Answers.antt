-- Each frame is one more, and at the end all have passed.
use Rattle.std.proofs.Common.{rules, ◌∙◌, refl, arith}
use Rattle.dp_host.specs.Hosts.{Arrays}
use Rattle.dp_host.proofs.SoFar.{Within, all_passed, lent_long, none_yet, one_more_lent}
use Rattle.dp_host.proofs.bursts.burst.Goals as goal

pub loop-k-init : goal.loop-k-init
loop-k-init c = record {
  so_far = none_yet _ _ _ _ _;
  missing = refl;
  explanation = refl;
}

pub offset_bounds-records-used : goal.offset_bounds-records-used
offset_bounds-records-used c = let le = c.loop-k.invariant.so_far.within.records in search rules

pub slice_bounds-passed_beyond-count : goal.slice_bounds-passed_beyond-count
slice_bounds-passed_beyond-count c = c.loop-k.invariant.so_far.within.records

pub slice_bounds-passed_beyond-count-in-loop-k : goal.slice_bounds-passed_beyond-count-in-loop-k
slice_bounds-passed_beyond-count-in-loop-k c = c.loop-k.invariant.so_far.within.bytes

pub passed_beyond-part-requires : goal.passed_beyond-part-requires
passed_beyond-part-requires c =
    omega (arith, lent_long c.loop-k.used (record { records = c.loop-k.records; bytes = c.loop-k.bytes }) c.loop-k.invariant.so_far.within)

pub loop-k-preserved : goal.loop-k-preserved
loop-k-preserved c =
    let part = c.passed_beyond-part.result in
    let made : Arrays = record { records = c.passed_beyond-part.new.records; bytes = c.passed_beyond-part.new.bytes } in
    let within : Within part made = record {
      records = omega (arith, c.passed_beyond-part.ensures.records_fit, c.passed_beyond-part.auto.records);
      bytes = omega (arith, c.passed_beyond-part.ensures.bytes_fit, c.passed_beyond-part.auto.bytes);
    } in
    record {
      so_far = one_more_lent _ _ _ _ _ _ _ _ _ _ _ _ _ _ part made c.loop-k.invariant.so_far (omega arith) c.loop-k.invariant.missing
          c.passed_beyond-part.ensures.passed c.passed_beyond-part.ensures.rest within;
      missing = c.passed_beyond-part.ensures.missing ∙ c.loop-k.invariant.missing;
      explanation = c.passed_beyond-part.ensures.explanation ∙ c.loop-k.invariant.explanation;
    }

pub returns : goal.returns
returns c = (
  all_passed _ _ _ _ _ _ _ _ _ _ c.loop-k.invariant.so_far c.loop-k-test.false (omega arith),
  c.loop-k.invariant.missing,
  c.loop-k.invariant.explanation,
)
