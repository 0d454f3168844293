-- Names lines: which name each field is, where the fields are the names in some order.
use Rattle.std.specs.Prelude.{◌≡◌, ℕ, ◌+◌, ◌<◌, Bool, true, false, cond, not, ◌&&◌, ◌||◌, List, [], ◌∷◌, map, length, get_or, Some, None, Option, MatchOption, ◌==◌, slice_index_or}
use Rattle.std.specs.Borrow.{Bor}
use Rattle.std.specs.List.{AllByRecursion}
use Rattle.std.specs.Str.{bytes_eq}
use Rattle.text.specs.NodeLists.{headed}

abbrev pub texts : List (Bor (List ℕ)) → List (List ℕ)
texts [] = []
texts (r ∷ rs) = r.now ∷ texts rs

-- the index of the first name that is this text, counted from i on
abbrev pub index_from : ℕ → List ℕ → List (List ℕ) → Option ℕ
index_from i text [] = None
index_from i text (n ∷ ns) = cond (bytes_eq text n) (Some i) (index_from (i + 1) text ns)

-- the index of each field's name, if each field is a name
abbrev pub indices : List (List ℕ) → List (List ℕ) → Option (List ℕ)
indices ns [] = Some []
indices ns (f ∷ fs) = headed (index_from 0 f ns) (indices ns fs)

abbrev pub elem : ℕ → List ℕ → Bool
elem x [] = false
elem x (y ∷ ys) = y == x || elem x ys

abbrev pub distinct : List ℕ → Bool
distinct [] = true
distinct (x ∷ xs) = not (elem x xs) && distinct xs

-- n of them, and each once
abbrev pub complete : ℕ → Option (List ℕ) → Option (List ℕ)
complete n None = None
complete n (Some is) = cond (length is == n && distinct is) (Some is) None

abbrev pub order_of : ℕ → List (List ℕ) → List (List ℕ) → Option (List ℕ)
order_of n ns fs = complete n (indices ns fs)

-- the fields are n of the names in this order, each once: where there are n names, all of them
pub record Order (n : ℕ) (ns fs : List (List ℕ)) (is : List ℕ) : Type 0 where
  pub all : length is ≡ n
  pub once : distinct is ≡ true
  pub names : AllByRecursion (λ i. i < length ns) is
  pub fields : fs ≡ map (λ i. get_or ns i []) is

-- no two names are the same
abbrev pub Apart : List (List ℕ) → Type 0
Apart ns = (i j : ℕ) → i < length ns → j < length ns → slice_index_or ns i [] ≡ slice_index_or ns j [] → i ≡ j

-- an order of names that the fields have, or, of names that differ, that they have none
abbrev pub Ordered : ℕ → List (List ℕ) → List (List ℕ) → Option (List ℕ) → Type 0
Ordered n ns fs r = MatchOption r (Apart ns → (is : List ℕ) → Order n ns fs is → ⊥) (Order n ns fs)
