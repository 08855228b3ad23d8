use Rattle.std.proofs.Common.{rules}
use Rattle.word.proofs.Spellings.{held_front}
use Rattle.word.proofs.WordTryFromRefSliceU8.try_from.Goals as goal

pub returns : goal.returns
returns c = (search rules, held_front c.args.bytes.now c.copy_from_slice.new.self _ c.copy_from_slice.ensures.after (search rules))
