-- The causes of refusal, and the number of each. Assumes nothing.
use Rattle.std.specs.Prelude.{ℕ}
use Rattle.rules.specs.declared.cause.Cause.{Cause}

abbrev pub number_of : Cause → ℕ
number_of Cause.NotAWord = 1
number_of Cause.TextTooLong = 2
number_of Cause.TooFewPages = 3
number_of Cause.NotTaken = 4
number_of Cause.NoText = 5
number_of Cause.AnswerTooLong = 6
number_of Cause.RequireCycle = 7
number_of Cause.TooManyModules = 8
number_of Cause.StrayByte = 10
number_of Cause.BadItem = 11
number_of Cause.Unbalanced = 12
number_of Cause.NestedTooDeep = 13
number_of Cause.WrongShape = 20
number_of Cause.NoMeaning = 21
number_of Cause.BoundTwice = 22
number_of Cause.ArgumentCount = 23
number_of Cause.NameNotAllowed = 24
number_of Cause.LevelTooHigh = 25
number_of Cause.LimitPassed = 26
number_of Cause.OperandKind = 30
number_of Cause.NumberRange = 31
number_of Cause.TooManySteps = 32
number_of Cause.TooManyPairs = 33
number_of Cause.TooManyCalls = 34
number_of Cause.OutputTooLong = 35
