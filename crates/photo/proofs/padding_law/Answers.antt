use Rattle.photo.proofs.Padding.{padding_unread}
use Rattle.photo.proofs.padding_law.Goals as goal

pub returns : goal.returns
returns c = λ other alike. padding_unread c.args.rows c.args.bytes.now other alike c.args.x c.args.y
