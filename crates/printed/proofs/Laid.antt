-- A face lies as its checks ask. Assumes nothing.
use Rattle.face.specs.Laid.{FaceLaid}
use Rattle.face.specs.declared.Face.{Face}
use Rattle.face.proofs.Exact.{laid_from_is_ok}

pub laid_of : (face : Face) → FaceLaid face.bytes.now
laid_of face = laid_from_is_ok face.bytes.now face.lawful
