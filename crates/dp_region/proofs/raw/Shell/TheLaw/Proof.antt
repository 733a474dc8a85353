-- A shared reference to a shell shows nothing. Assumes `Logic`.
use base.Fraction.{full_share}
use denote.Memory.{part_at}
use denote.SharingLaws.{nothing_shr_laws}
use denote.Struct.Lending.{Lends-nothing}
use Rattle.dp_region.specs.contracts.raw.Shell.{the_written as written}
use Rattle.dp_region.proofs.raw.Shell.TheLaw.Statement.{statement}

pub shares : statement
shares = record { shr_laws = λ e b o. nothing_shr_laws; shares = λ M 𝓤 𝓛 e κ ts b o. Lends-nothing 𝓛 (part_at written full_share e b o) written.lives κ ts }
