use Rattle.std.proofs.Common.{subst}
use Rattle.fc_instance.specs.Histories.{Fits, HasPlace}
use Rattle.fc_rows.proofs.Updating.{updated_fits}
use Rattle.fc_instance.proofs.instance.exchange_entry.Goals as goal

pub swap-requires : goal.swap-requires
swap-requires c = (
  updated_fits c.in-Entries.rows.0 c.args.subscript c.args.value c.in-Entries.rows.1.0 (subst HasPlace c.in-Entries.is c.requires.room),
  subst (Fits c.args.subscript c.args.value c.args.entering c.args.leaving.now) c.in-Entries.is c.requires.fits,
)
