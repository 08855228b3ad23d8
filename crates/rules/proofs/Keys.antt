-- The worked keys, by computation.
use Rattle.std.proofs.Common.{refl}
use Rattle.std.specs.Fmt.{digits}
use Rattle.rules.specs.Reading.{scan}
use Rattle.rules.specs.Evaluate.{eval, evals, invoke}
use Rattle.rules.specs.Expand.{quote_rows, expand}
use Rattle.rules.specs.Tops.{top}
use Rattle.rules.specs.Walk.{walk}
use Rattle.rules.specs.Build.{expand_all}
use Rattle.rules.specs.Worked.{WorkedKeys}

pub worked_keys : WorkedKeys
unfolding digits scan eval evals invoke quote_rows expand top walk expand_all
worked_keys = (refl, (refl, (refl, (refl, (refl, (refl, (refl, (refl, (refl, (refl, (refl, (refl, (refl, (refl, (refl, tt)))))))))))))))
