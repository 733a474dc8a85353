-- The segment that is copied is found once, and each goal is one step from there.
use Rattle.std.proofs.Common.{◌≡◌, ◌+◌, ◌<◌, ◌≤◌, ◌++◌, [], length, take, refl, sym, ◌∙◌, ap, arith, length-append}
use Rattle.std.specs.List.{flat_map}
use Rattle.std.proofs.lemmas.List.Folds.{length-flat_map-take}
use Rattle.std.proofs.lemmas.Option.{get_or_from_slice_get}
use Rattle.std.proofs.lemmas.List.{take_all}
use Rattle.dp_model.specs.Buffers.{overwritten}
use Rattle.dp_model.specs.Packets.{Packet, segment_bytes}
use Rattle.dp_model.specs.Laws.Stored.{length_overwritten}
use Rattle.dp_model.specs.Stores.{Has}
use Rattle.dp_model.specs.Laws.Lists.{get_within}
use Rattle.dp_engine.proofs.Batches.{written_none, written_on}
use Rattle.dp_engine.proofs.Writing.{piece_more}
use Rattle.dp_engine.proofs.copying.copy_packet.Goals as goal
use Rattle.dp_engine.proofs.copying.copy_packet.Goals.{After-segment_bytes-part}

-- what is known about it: its bytes come next, and there is room for them
record Next (c : After-segment_bytes-part) (k : Packet) : Type 0 where
  more : flat_map (segment_bytes c.args.mbufs.now.store.buffers) (take (c.loop-index.index + 1) k)
      ≡ flat_map (segment_bytes c.args.mbufs.now.store.buffers) (take c.loop-index.index k) ++ c.segment_bytes-part.result.now
  fits : c.args.from + c.loop-index.length + length c.segment_bytes-part.result.now ≤ length c.loop-index.bytes
  few : c.loop-index.index < 64

next : (c : After-segment_bytes-part) (k : Packet) → Has c.args.mbufs.now.store c.args.packet k → Next c k
next c k has =
    let b = c.args.mbufs.now.store.buffers in
    let count = c.segments-index-end.ensures k has in
    let lt : c.loop-index.index < length k = omega (arith, c.loop-index-test.true, count) in
    let (s, here) = get_within k c.loop-index.index lt in
    let is = c.segment_bytes-part.ensures.value k has s here in
    record {
      more = sym (piece_more [] (segment_bytes b) k c.loop-index.index s here) ∙ ap (λ l. flat_map (segment_bytes b) (take c.loop-index.index k) ++ l) (sym is);
      fits = omega (
        arith,
        c.requires.room k has,
        c.loop-index.invariant.long k has,
        c.loop-index.invariant.many,
        length-flat_map-take (segment_bytes b) k c.loop-index.index s lt,
        ap (λ x. length (segment_bytes b x)) (get_or_from_slice_get k c.loop-index.index s s here),
        ap length is,
      );
      few = omega (arith, lt, (c.is_well_formed.ensures.sizes c.args.packet k has).1);
    }

pub loop-index-init : goal.loop-index-init
loop-index-init c = record {
  short = omega arith;
  long = λ k has. refl;
  copied = λ k has. written_none c.args.bytes.now c.args.from;
  many = refl;
}

pub overflow_add-from : goal.overflow_add-from
overflow_add-from c =
    let (k, has, _) = c.requires.live in
    let n = next (goal.at.overflow_add-from c).After-segment_bytes-part k has in
    omega (arith, n.fits, c.well_formed)

pub write_at-requires : goal.write_at-requires
write_at-requires c = let (k, has, _) = c.requires.live in (next (goal.at.write_at-requires c).After-segment_bytes-part k has).fits

pub overflow_add-length : goal.overflow_add-length
overflow_add-length c =
    let (k, has, _) = c.requires.live in
    let n = next (goal.at.overflow_add-length c).After-segment_bytes-part k has in
    omega (arith, n.few, c.loop-index.invariant.short, c.segment_bytes-part.ensures.bound)

pub loop-index-preserved : goal.loop-index-preserved
loop-index-preserved c =
    let (some, had, _) = c.requires.live in
    let b = c.args.mbufs.now.store.buffers in
    let part = c.segment_bytes-part.result.now in
    let here = (goal.at.loop-index-preserved c).After-segment_bytes-part in
    record {
      short = omega (arith, c.loop-index.invariant.short, c.segment_bytes-part.ensures.bound);
      long = λ k has. omega (
        arith,
        c.loop-index.invariant.long k has,
        ap length (next here k has).more,
        length-append (flat_map (segment_bytes b) (take c.loop-index.index k)) part,
      );
      copied = λ k has.
          let n = next here k has in
          let front = flat_map (segment_bytes b) (take c.loop-index.index k) in
          let at = c.loop-index.invariant.long k has in
          c.write_at.ensures
          ∙ ap (λ l. overwritten l (c.args.from + c.loop-index.length) part) (c.loop-index.invariant.copied k has)
          ∙ ap (λ m. overwritten (overwritten c.args.bytes.now c.args.from front) (c.args.from + m) part) at
          ∙ written_on c.args.bytes.now c.args.from front part (omega (arith, n.fits, at, c.loop-index.invariant.many))
          ∙ ap (overwritten c.args.bytes.now c.args.from) (sym n.more);
      many = ap length c.write_at.ensures
          ∙ length_overwritten c.loop-index.bytes part (c.args.from + c.loop-index.length) (next here some had).fits ∙ c.loop-index.invariant.many;
    }

pub returns-clause-length : goal.returns-clause-length
returns-clause-length c = λ k has.
    c.loop-index.invariant.long k has
    ∙ ap (λ l. length (flat_map (segment_bytes c.args.mbufs.now.store.buffers) l))
    (take_all c.loop-index.index k (omega (arith, c.loop-index-test.false, c.segments-index-end.ensures k has)))

pub returns-clause-copied : goal.returns-clause-copied
returns-clause-copied c = λ k has.
    c.loop-index.invariant.copied k has
    ∙ ap (λ l. overwritten c.args.bytes.now c.args.from (flat_map (segment_bytes c.args.mbufs.now.store.buffers) l))
    (take_all c.loop-index.index k (omega (arith, c.loop-index-test.false, c.segments-index-end.ensures k has)))
