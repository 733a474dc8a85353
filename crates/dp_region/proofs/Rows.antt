-- The two kinds of vectors: what they own obeys the laws of a type.
use Rattle.std.proofs.Common.{refl}
use denote.Builtin.{u8}
use denote.Param.Laws.{Laws, of_field}
use denote.Param.Shared.{copy_shared}
use denote.RattleType.{RattleType}
use denote.Struct.Field.{u8-field}
use denote.Struct.Laws.{u8-laws, u8-copy}
use Rattle.std_alloc.specs.contracts.vec.Vec as Vec
use Rattle.std_alloc.proofs.vec.Vec.TheLaws as vec_laws
use Rattle.std.specs.contracts.alloc.Global as Global
use Rattle.std.specs.contracts.impls.GlobalAllocator.TheImpl as global
use Rattle.std.proofs.alloc.Global.TheLaws as global_laws
use Rattle.std_alloc.specs.contracts.vec.lodged.Lodged as Lodged
use Rattle.std_alloc.specs.contracts.vec.lodged.LodgedAllocator.TheImpl as lodged
use Rattle.std_alloc.proofs.vec.lodged.Lodged.TheLaws as lodged_laws

abbrev pub byte_laws : Laws u8
byte_laws = of_field u8-field u8-laws refl (copy_shared u8-field u8-copy)

-- a `Vec<u8, Global>`
abbrev pub Owner : RattleType
Owner = Vec.the_row u8 Global.the_row global.ghosts

abbrev pub owner_laws : Laws Owner
owner_laws = vec_laws.the_row_laws u8 Global.the_row global.ghosts byte_laws global_laws.the_row_laws

-- a `Vec<u8, Lodged>`
abbrev pub Lodger : RattleType
Lodger = Vec.the_row u8 Lodged.the_row lodged.ghosts

abbrev pub lodger_laws : Laws Lodger
lodger_laws = vec_laws.the_row_laws u8 Lodged.the_row lodged.ghosts byte_laws lodged_laws.the_row_laws
