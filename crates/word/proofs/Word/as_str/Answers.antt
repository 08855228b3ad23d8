use Rattle.std.proofs.Common.{refl}
use Rattle.word.proofs.Spellings.{shown_or_none}
use Rattle.word.proofs.Word.as_str.Goals as goal

pub returns : goal.returns
returns c = rw (c.unwrap_or.ensures, ← c.as_bytes.ensures) (shown_or_none _ _ _ _ refl c.from_utf8.ensures.cases)
