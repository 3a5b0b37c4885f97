use Rattle.ba_soap_shapes.proofs.FitAnswer.{says_fit}
use Rattle.ba_soap_shapes.proofs.endpoints.fits.Goals as goal

pub returns : goal.returns
returns c = says_fit c.args.epr.now c.fits.result c.fits.ensures
