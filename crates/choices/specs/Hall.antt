-- Hall's theorem for racks: when some blocks have a choice, and which set of them stands in the way where they have none.
use Rattle.std.specs.Prelude.{◌≡◌, ℕ, Bool, ◌&&◌, ◌⊎◌, List, [], ◌∷◌, ◌++◌, slice_index_or}
use Rattle.site.specs.Site.{Site, Limits, keeps}
use Rattle.choices.specs.Choice.{Copies, Choice, has}
use Rattle.choices.specs.Tight.{Tight, LeastTight}

-- whether block i can be left at node v: v is marked yes, and holds a copy
abbrev pub usable : Site → List Copies → ℕ → ℕ → Bool
usable s bs i v = keeps s v && has v (slice_index_or bs i [])

abbrev pub SomeChoice : Site → ℕ → List Copies → Type 0
SomeChoice s c bs = (vs : List ℕ) × Choice s c bs vs

abbrev pub NoTight : Site → ℕ → List Copies → Type 0
NoTight s c bs = (w : ℕ) → Tight s c bs w → ⊥

-- where there is a choice, no set is tight
abbrev pub NoTightWhereChoice : Type 0
NoTightWhereChoice = (s : Site) (c : ℕ) (bs : List Copies) (vs : List ℕ) → Limits s → Choice s c bs vs → NoTight s c bs

-- there is a choice exactly where no set is tight
abbrev pub Hall : Type 0
Hall = (s : Site) (c : ℕ) (bs : List Copies) → Limits s
    → (SomeChoice s c bs → NoTight s c bs) × (NoTight s c bs → SomeChoice s c bs)

-- and one or the other is found
abbrev pub ChoiceOrTight : Type 0
ChoiceOrTight = (s : Site) (c : ℕ) (bs : List Copies) → Limits s → SomeChoice s c bs ⊎ ((w : ℕ) × Tight s c bs w)

-- where one more block takes the last choice away, there is a least tight set, and no other
abbrev pub LeastExists : Type 0
LeastExists = (s : Site) (c : ℕ) (bs : List Copies) (b : Copies) → Limits s
    → SomeChoice s c bs → (SomeChoice s c (bs ++ (b ∷ [])) → ⊥)
    → (w : ℕ) × LeastTight s c (bs ++ (b ∷ [])) w × ((u : ℕ) → LeastTight s c (bs ++ (b ∷ [])) u → u ≡ w)

-- a least tight set is the only one
abbrev pub LeastOne : Type 0
LeastOne = (s : Site) (c : ℕ) (bs : List Copies) (u w : ℕ) → LeastTight s c bs u → LeastTight s c bs w → u ≡ w
