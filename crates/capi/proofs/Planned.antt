-- The plan of a question, by the values that were read from it.
use Rattle.std.proofs.Common.{◌≡◌, ℕ, ◌≤◌, List, length, ap, arith}
use Rattle.std.proofs.lemmas.List.FromFn.{length-map-range_with_len}
use Rattle.site.specs.Maps.{Fit}
use Rattle.site.specs.Site.{Site}
use Rattle.choices.specs.Choice.{Copies}
use Rattle.choices.specs.Plan.{planned}
use Rattle.blocks.specs.Codes.{Within}
use Rattle.capi.specs.declared.plans.VaultCode.{VaultCode}
use Rattle.capi.specs.declared.sites.VaultSite.{VaultSite}
use Rattle.capi.specs.Lists.{list_at, lists_in, Shaped, AllSized}
use Rattle.capi.specs.Plans.{Full, plan_of}
use Rattle.capi.specs.Sites.{site_of}

module _ (s : VaultSite) (o : VaultCode) (vs ns : List ℕ) (n k c : ℕ) (site : Site) (bs : List Copies) (start : ℕ) (p : List ℕ) where
  plan-is : n ≡ o.n → k ≡ o.k → c ≡ o.c → site ≡ site_of s → bs ≡ lists_in vs ns → p ≡ planned site n k c bs start → p ≡ plan_of s o vs ns start
  plan-is en ek ec es eb e = cc

  -- nothing is wrong with the question, and this is its plan
  pub plan-asked : Fit s.racks s.each × (site ≡ site_of s) → Within o.n o.k o.c × (n ≡ o.n) × (k ≡ o.k) × (c ≡ o.c) → Shaped vs ns × AllSized ns × (bs ≡ lists_in vs ns)
      → length ns ≡ k → (length bs ≤ k → p ≡ planned site n k c bs start) → Full s o vs ns × (p ≡ plan_of s o vs ns start)
  plan-asked map within read full told =
      let few : length bs ≤ k = omega (arith, ap length read.2, length-map-range_with_len (list_at vs ns) 0 (length ns)) in (
        ((map.0, within.0), read.0, read.1, omega (arith, within.2)),
        plan-is within.1 within.2 within.3 map.1 read.2 (told few),
      )
