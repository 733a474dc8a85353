-- The records of the pass are at the front of what is left, and get offsets in the whole.
use Rattle.std.proofs.Common.{◌≡◌, ap, ◌∙◌, sym, refl, arith, length, drop}
use Rattle.std.proofs.lemmas.List.{drop_at, length-map, length-take-le, take_at}
use Rattle.dp_engine.specs.declared.batch.SentRecord.{SentRecord}
use Rattle.dp_host.proofs.Places.{Fills, all_within, pass_fills}
use Rattle.dp_host.proofs.bursts.passed_beyond.Goals as goal
use Rattle.dp_host.proofs.bursts.passed_beyond.Goals.{After-passed-frame}

fills : (c : After-passed-frame) → Fills (record { records = c.args.records.now; bytes = c.args.bytes.now })
    (record { records = c.passed-frame.new.records; bytes = c.passed-frame.new.bytes }) c.passed-frame.new.filled
fills c = pass_fills _ _ _ _ _ _ _ _ _ _ c.passed-frame.ensures.0

pub slice_bounds-shift-end : goal.slice_bounds-shift-end
slice_bounds-shift-end c = (fills (goal.at.slice_bounds-shift-end c).After-passed-frame).records

pub slice_bounds-shift-end-2 : goal.slice_bounds-shift-end-2
slice_bounds-shift-end-2 c =
    sym (length-take-le c.passed-frame.new.filled.records c.passed-frame.new.records (fills (goal.at.slice_bounds-shift-end-2 c).After-passed-frame).records)

pub shift-requires : goal.shift-requires
shift-requires c =
    let f = fills (goal.at.shift-requires c).After-passed-frame in
    all_within _ _ (λ (r : SentRecord) le. omega (arith, le, f.bytes, c.requires, c.passed-frame.auto.bytes)) _ f.offsets

pub returns : goal.returns
returns c =
    let f = fills (goal.at.returns c).After-passed-frame in
    let n = c.passed-frame.new.filled.records in
    let many : length c.shift.new.records ≡ n =
    ap length c.shift.ensures ∙ length-map _ _ ∙ length-take-le n c.passed-frame.new.records f.records in
    record {
      passed = record {
        made = record { records = c.passed-frame.new.records; bytes = c.passed-frame.new.bytes };
        pass = c.passed-frame.ensures.0;
        frame_is = refl;
        records_are = take_at c.shift.new.records _ n many ∙ c.shift.ensures;
        bytes_are = refl;
      };
      rest = (λ i. record {
        records = drop_at c.shift.new.records (drop n c.passed-frame.new.records) n many i;
        bytes = drop c.passed-frame.new.filled.bytes c.passed-frame.new.bytes;
      }) ∙ f.rest;
      records_fit = omega (arith, f.records, c.passed-frame.auto.records);
      bytes_fit = omega (arith, f.bytes, c.passed-frame.auto.bytes);
      missing = c.passed-frame.ensures.1;
      explanation = c.passed-frame.ensures.2;
    }
