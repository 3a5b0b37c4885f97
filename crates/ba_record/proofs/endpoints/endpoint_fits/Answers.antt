use Rattle.ba_record.proofs.Bases.{tells_fit}
use Rattle.ba_record.proofs.endpoints.endpoint_fits.Goals as goal

pub returns : goal.returns
returns c = tells_fit c.args.epr.now c.fits.result c.fits.ensures
