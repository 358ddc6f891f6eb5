use Rattle.pdp_core_laws.proofs.Values.{product_signed}
use Rattle.pdp_core_laws.proofs.numbers.multiplies.Goals as goal

pub returns-clause-product : goal.returns-clause-product
returns-clause-product c = product_signed
