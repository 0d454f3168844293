-- Tests over a caller's list of nodes, as the rules read them.
use Rattle.std.proofs.Common.{◌≡◌, ℕ, Bool, not, ◌&&◌, eqb, List, [], ◌∷◌, length, drop, is_some, sym, refl, ap, ◌∙◌, ⊎_elim}
use Rattle.std.proofs.lemmas.Bool.{lt-ltb, le-ltb}
use Rattle.std.proofs.lemmas.Option.{slice_get_cases}
use Rattle.std.specs.List.{list_all, list_any, slice_get}
use Rattle.site.specs.Site.{Site, node_rack}
use Rattle.site.specs.declared.Node.{Node}
use Rattle.choices.specs.Choice.{every, apart}
use Rattle.blocks.specs.Blocks.{numbers}
use Rattle.blocks.proofs.Looks.{has-any}
use Rattle.store.specs.Stripes.{core, rest}
use Rattle.store.specs.Refusals.{on_map}

-- a node has a place exactly where its number is on the map
pub placed : (s : Site) (v : ℕ) → is_some (slice_get s v) ≡ on_map s v
placed s v = ⊎_elim (λ p. ap is_some p.2 ∙ sym (lt-ltb v (length s) p.1)) (λ p. ap is_some p.1 ∙ sym (le-ltb v (length s) p.0)) (slice_get_cases s v).1

pub every-map : (f : ℕ → Bool) (vs : List Node) → list_all (λ v. f v.0) vs ≡ every f (numbers vs)
every-map f [] = refl
every-map f (v ∷ vs) = ap (λ b. f v.0 && b) (every-map f vs)

pub every-rest : (f : ℕ → Bool) (vs : List Node) → list_all (λ v. f v.0) (drop 1 vs) ≡ every f (rest (numbers vs))
every-rest f [] = refl
every-rest f (v ∷ vs) = every-map f vs

pub apart-first : (vs : List Node) (v : Node) (rest : List Node) (t : Bool) → vs ≡ v ∷ rest → t ≡ list_any (λ w. eqb w.0 v.0) rest → (not t && apart (numbers rest)) ≡ apart (numbers vs)
apart-first vs v rest t e f = ap (λ b. not b && apart (numbers rest)) (f ∙ has-any (λ w. w.0) v.0 rest) ∙ ap (λ l. apart (numbers l)) (sym e)

-- whether no node but the first lies in the first one's rack
pub away : (s : Site) (vs : List Node) (r : ℕ) (t : Bool) → r ≡ core s (numbers vs) → t ≡ list_all (λ v. not (eqb (node_rack s v.0) r)) (drop 1 vs) → every (λ v. not (eqb (node_rack s v) (core s (numbers vs)))) (rest (numbers vs)) ≡ t
away s vs r t e f = ap (λ x. every (λ v. not (eqb (node_rack s v) x)) (rest (numbers vs))) (sym e) ∙ sym (f ∙ every-rest (λ v. not (eqb (node_rack s v) r)) vs)
