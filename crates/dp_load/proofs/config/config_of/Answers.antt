-- `config_of`: its parts are those of the setup.
use Rattle.std.proofs.Common.{◌∙◌, refl, sym}
use Rattle.dp_load.specs.Config.{names_of_port}
use Rattle.dp_load.specs.Views.{port_part, ring_part}
use Rattle.dp_load.proofs.Environments.{map_twice}
use Rattle.dp_load.proofs.config.config_of.Goals as goal

pub returns-clause-ok : goal.returns-clause-ok
returns-clause-ok c = record {
  region = refl;
  fits = c.in_ok-env.ensures.ok.fits;
  env = c.in_ok-env.ensures.ok.same;
  tables = rw c.deref.ensures.value at c.in_ok-tables_of.ensures.ok;
  ports = c.in_ok-names_of_ports.ensures ∙ rw c.deref-2.ensures.value (sym (map_twice port_part names_of_port c.args.setup.now.ports.items));
  rings = c.in_ok-names_of_rings.ensures ∙ rw c.deref-3.ensures.value (sym (map_twice ring_part (λ r. r.files) c.args.setup.now.rings.items));
}
