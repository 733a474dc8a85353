-- The bytes after an object's header are its data room.
use Rattle.std.proofs.Common.{◌≡◌, ◌-◌, sym, ◌∙◌, ap, arith, length, drop}
use Rattle.dp_pool.specs.Pools.{object_in}
use Rattle.dp_mbuf.specs.Objects.{pool_in}
use Rattle.dp_mbuf.proofs.ObjectLemmas.{bytes_are, room_is}
use Rattle.std.proofs.lemmas.List.{take_all, length-drop}
use Rattle.dp_mbuf.proofs.objects.Objects.bytes.Goals as goal

pub returns-clause-value : goal.returns-clause-value
returns-clause-value c =
    let is : c.object.result.now ≡ object_in (pool_in c.args.self.now c.args.n.pool) c.args.n.index =
    rw (c.object.ensures.value, c.pool_at.ensures.value, c.self.view_is, c.pool.ensures, c.from.ensures, c.index.ensures) in
    take_all _ _ (omega (arith, length-drop 128 c.object.result.now)) ∙ (ap (drop 128) is ∙ sym (bytes_are c.args.self.now c.args.n))

pub returns-clause-room : goal.returns-clause-room
returns-clause-room c =
    let pool : c.pool_at.result.now ≡ pool_in c.args.self.now c.args.n.pool =
    rw (c.pool_at.ensures.value, c.self.view_is, c.pool.ensures) in
    omega (
      arith,
      length-drop 128 c.object.result.now,
      c.object.ensures.size,
      ap (λ p. p.size) pool,
      room_is c.args.self.now c.args.n.pool,
      ap length (take_all (length c.object.result.now - 128) (drop 128 c.object.result.now) (omega (arith, length-drop 128 c.object.result.now))),
    )
