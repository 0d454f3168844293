-- The numbers that C is told.
use Rattle.std.specs.Prelude.{ℕ, Ok, Err, Result}
use Rattle.capi.specs.declared.refused.Refused.{Refused}
use Rattle.capi.specs.declared.refused.Refused.TheVariants.{OutsideLimits, ListLength, OutsideRegular, NoChoice, NotFull, Arrays, NoPlan}

abbrev pub number_of : Refused → ℕ
number_of OutsideLimits = 1
number_of ListLength = 3
number_of OutsideRegular = 9
number_of (NoChoice w) = 24
number_of NotFull = 25
number_of Arrays = 30
number_of NoPlan = 31

-- 0 where nothing is refused
abbrev pub number_in : {X : Type 0} → Result X Refused → ℕ
number_in (Ok x) = 0
number_in (Err e) = number_of e
