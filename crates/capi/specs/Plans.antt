-- What C is told of a plan.
use Rattle.std.specs.Prelude.{◌≡◌, ℕ, List, length, Ok, Err, Result, ◌≢◌}
use Rattle.site.specs.Maps.{Fit}
use Rattle.choices.specs.Plan.{planned}
use Rattle.blocks.specs.Codes.{Within}
use Rattle.blocks.specs.Lists.{node_numbers}
use Rattle.site.specs.declared.Node.{Node}
use Rattle.text.specs.Texts.{whole}
use Rattle.capi.specs.declared.plans.VaultCode.{VaultCode}
use Rattle.capi.specs.declared.refused.Refused.{Refused}
use Rattle.capi.specs.declared.refused.Refused.TheVariants.{OutsideLimits, ListLength, OutsideRegular, NoChoice, NotFull, Arrays, NoPlan}
use Rattle.capi.specs.declared.sites.VaultSite.{VaultSite}
use Rattle.capi.specs.Lists.{lists_in, Shaped, AllSized}
use Rattle.capi.specs.Numbers.{number_in}
use Rattle.capi.specs.Sites.{site_of}

-- the site and the code are within their limits
abbrev pub Limited : VaultSite → VaultCode → Type 0
Limited s o = Fit s.racks s.each × Within o.n o.k o.c

-- nothing is wrong with the question
abbrev pub Full : VaultSite → VaultCode → List ℕ → List ℕ → Type 0
Full s o vs ns = Limited s o × Shaped vs ns × AllSized ns × (length ns ≡ o.k)

abbrev pub plan_of : VaultSite → VaultCode → List ℕ → List ℕ → ℕ → List ℕ
plan_of s o vs ns start = planned (site_of s) o.n o.k o.c (lists_in vs ns) start

-- the plan where it has n nodes; or the first thing wrong with the question; or that there are no n nodes
abbrev pub Plans : VaultSite → VaultCode → List ℕ → List ℕ → ℕ → Result (List Node) Refused → Type 0
Plans s o vs ns start (Ok p) = Full s o vs ns × (node_numbers p ≡ plan_of s o vs ns start) × (length (plan_of s o vs ns start) ≡ o.n)
Plans s o vs ns start (Err OutsideRegular) = Fit s.racks s.each → ⊥
Plans s o vs ns start (Err OutsideLimits) = Fit s.racks s.each × (Within o.n o.k o.c → ⊥)
Plans s o vs ns start (Err Arrays) = Limited s o × (Shaped vs ns → ⊥)
Plans s o vs ns start (Err ListLength) = Limited s o × Shaped vs ns × (AllSized ns → ⊥)
Plans s o vs ns start (Err NotFull) = Limited s o × Shaped vs ns × AllSized ns × (length ns ≢ o.k)
Plans s o vs ns start (Err NoPlan) = Full s o vs ns × (length (plan_of s o vs ns start) ≢ o.n)
Plans s o vs ns start (Err (NoChoice w)) = ⊥

-- the nodes are written, as far as there is room; a refusal writes none
abbrev pub out_after : Result (List Node) Refused → List ℕ → List ℕ
out_after (Ok p) was = whole was (node_numbers p)
out_after (Err e) was = was

abbrev pub len_after : Result (List Node) Refused → ℕ → ℕ
len_after (Ok p) was = length (node_numbers p)
len_after (Err e) was = was

pub record PlanTold (s : VaultSite) (o : VaultCode) (vs ns : List ℕ) (start : ℕ) (was is : List ℕ) (len len' number : ℕ) : Type 0 where
  pub result : Result (List Node) Refused
  pub plans : Plans s o vs ns start result
  pub number_is : number ≡ number_in result
  pub out_is : is ≡ out_after result was
  pub len_is : len' ≡ len_after result len
