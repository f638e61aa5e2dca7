use Rattle.listing.proofs.Exact.{exactly_listed}
use Rattle.listing.proofs.line.listing_law.Goals as goal

pub returns : goal.returns
returns c = exactly_listed c.args.face.now c.args.photo.now
