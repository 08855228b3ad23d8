-- That words are spelled alike is an equivalence.
use Rattle.std.specs.Str.{bytes_eq}
use Rattle.std.specs.Cmp.{IsPartialEquivalence, IsEquivalence, decided, on_equiv, partial_equiv_from_equiv}
use Rattle.std.proofs.lemmas.Slice.Eq.{bytes_eq-Decides}
use Rattle.word.specs.Words.{spelling, same_spelling}

pub spelling_equivalence : IsEquivalence same_spelling
spelling_equivalence = on_equiv spelling (decided bytes_eq bytes_eq-Decides)

pub spelling_partial : IsPartialEquivalence same_spelling
spelling_partial = partial_equiv_from_equiv spelling_equivalence
