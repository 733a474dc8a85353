-- The names that the walks cite, in one place.
pub use Rattle.std.proofs.Common.{◌≡◌, ℕ, ◌+◌, ◌*◌, ◌^◌, ◌<◌, ◌≤◌, true, List, [], ◌∷◌, ◌++◌, length, refl, sym, ap, subst, ◌∙◌, arith, add-zero, le-leb}
pub use mir.Syntax.{w64, seq, assign, place, rv_opd, copy, return}
pub use mir.Val.{Val, vint, vptr}
pub use base.Fml.{Fml, Lft, ftrue, fsep, flft, GName, fown}
pub use base.Fraction.{full_share}
pub use base.Logic.{id⊢, never}
pub use contract.Monad.{fact}
pub use contract.Running.{tables}
pub use prog.Wp.{WpFn}
pub use types.Kit.{‵, raw, ◌⊛◌, some, given, later, prop, at_ret, ◌$◌, ◌∵◌, !, qed, done, move, keep, drop, use0, use1, use2, split, join, fsplit, fjoin}
pub use types.Kit.{feq_i, flt_i, pick, learn, await, rewrite, regoal, suffices, group}
pub use types.Part.{agg}
pub use types.Run.{enter, returns, of_opd, and_then, no_more, first, blocks, exec}
pub use types.ByLocal.{alloc_all, pass_all, free_all, look_at, get, sets, sets_last, env}
pub use denote.Exit.{yes}
pub use denote.Builtin.{u8, usize, RawPtr}
pub use denote.Plain.{uint_vals, uint_Tells}
pub use denote.RawPtr.{Ptr, block_ptr, block_of, count_of, rawptr_vals, rawptr_Tells}
pub use denote.RawPtr.Bytes.{bytes}
pub use denote.Signature.{plain}
pub use denote.Steps.{nothing, heard}
pub use denote.Triple.Entry.{on_entry}
pub use denote.Triple.Walked.{Stays, stay_dropped, Goes-dropped, says, walk_of, ends_at}
pub use Rattle.std.proofs.alloc.Calls.{Goes-blank}
pub use Rattle.std.proofs.raw_atomic.Walks.{proved, proved_at}
