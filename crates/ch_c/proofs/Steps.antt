-- The names that these proofs by hand use.
pub use Rattle.std.proofs.Common.{◌≡◌, ℕ, List, [], ◌∷◌, ◌++◌, refl, sym, ap, ◌∙◌, subst, lit<}
pub use Rattle.std.proofs.raw_atomic.Walks.{proved}
pub use base.Fraction.{full_share}
pub use base.Logic.{id⊢, emp}
pub use base.Fml.{ftrue, fsep}
pub use lib.Dec.{T}
pub use mir.Syntax.{ty_ptr}
pub use mir.Val.{Val, vstruct, vcons, vnil, vunit, of_list, has_ty, WT}
pub use contract.Monad.{fact, fact_i}
pub use contract.Running.{tables}
pub use types.Kit.{‵, raw, ◌⊛◌, some, later, prop, at_ret, ◌$◌, ◌∵◌, !, qed, done, move, keep, drop, use0, use1, use2, split, join}
pub use types.Kit.{fsplit, fjoin, feq_i, feq_l, pick, await, rewrite, suffices, frame, group}
pub use types.Part.{whole, sub, agg}
pub use types.Run.{enter, of_opd, lit, stop, fld, no_more, and_then, assigns_last, first, blocks, skips, exec, returns}
pub use types.ByLocal.{alloc_all, pass_all, free_all, look_at, get, get_in, sets, lands_as, lands_last, env}
pub use denote.Exit.{yes, no}
pub use denote.Signature.{plain, type_at}
pub use denote.Steps.{nothing, owned, heard, peeks, facts, only}
pub use denote.Triple.Call.{calls_at, calls_at_last}
pub use denote.Triple.Clauses.{lasts}
pub use denote.Triple.Entry.{on_entry}
pub use denote.Triple.Spec.{triple_of}
pub use denote.Triple.Walked.{Stays, walk_of, says, stay_dropped, Goes-dropped, ends_at}
pub use denote.Triple.Table.{framed}
