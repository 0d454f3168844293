-- What C is told of an offer.
use Rattle.std.specs.Prelude.{◌≡◌, ℕ, List, [], ◌∷◌, ◌++◌, length, Ok, Err, Result}
use Rattle.site.specs.Maps.{Fit}
use Rattle.choices.specs.Hall.{SomeChoice}
use Rattle.placement.specs.Resolved.{CrowdedOut}
use Rattle.capi.specs.declared.refused.Refused.{Refused}
use Rattle.capi.specs.declared.refused.Refused.TheVariants.{OutsideLimits, ListLength, OutsideRegular, NoChoice, NotFull, Arrays, NoPlan}
use Rattle.capi.specs.declared.sites.VaultSite.{VaultSite}
use Rattle.capi.specs.Lists.{lists_in, Shaped, Sized, AllSized}
use Rattle.capi.specs.Numbers.{number_in}
use Rattle.capi.specs.Sites.{site_of}

-- nothing is wrong with the question
abbrev pub Offered : VaultSite → List ℕ → List ℕ → List ℕ → Type 0
Offered s vs ns b = Fit s.racks s.each × Shaped vs ns × AllSized ns × Sized (length b)

-- there is a choice; or the first thing wrong with the question; or there is no choice, and the least tight set is told
abbrev pub Admits : VaultSite → ℕ → List ℕ → List ℕ → List ℕ → Result Unit Refused → Type 0
Admits s c vs ns b (Ok u) = Offered s vs ns b × SomeChoice (site_of s) c (lists_in vs ns ++ (b ∷ []))
Admits s c vs ns b (Err OutsideRegular) = Fit s.racks s.each → ⊥
Admits s c vs ns b (Err Arrays) = Fit s.racks s.each × (Shaped vs ns → ⊥)
Admits s c vs ns b (Err ListLength) = Fit s.racks s.each × Shaped vs ns × (AllSized ns × Sized (length b) → ⊥)
Admits s c vs ns b (Err (NoChoice w)) = Offered s vs ns b × CrowdedOut (site_of s) c (lists_in vs ns) b w
Admits s c vs ns b (Err OutsideLimits) = ⊥
Admits s c vs ns b (Err NotFull) = ⊥
Admits s c vs ns b (Err NoPlan) = ⊥

-- the set where there is no choice, and else what it was
abbrev pub set_after : Result Unit Refused → ℕ → ℕ
set_after (Ok u) was = was
set_after (Err OutsideRegular) was = was
set_after (Err Arrays) was = was
set_after (Err ListLength) was = was
set_after (Err (NoChoice w)) was = w
set_after (Err OutsideLimits) was = was
set_after (Err NotFull) was = was
set_after (Err NoPlan) was = was

pub record AdmitTold (s : VaultSite) (c : ℕ) (vs ns b : List ℕ) (was is number : ℕ) : Type 0 where
  pub result : Result Unit Refused
  pub admits : Admits s c vs ns b result
  pub number_is : number ≡ number_in result
  pub set_is : is ≡ set_after result was
