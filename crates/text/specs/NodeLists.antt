-- Node lists as a sheet writes them: numbers up to 65535 with single spaces between; an empty text is the empty list.
use Rattle.std.specs.Prelude.{◌≡◌, ℕ, ◌≤◌, List, [], ◌∷◌, length, take, Some, None, Option, MatchOption, ◌≢◌}
use Rattle.std.specs.List.{AllByRecursion}
use Rattle.text.specs.declared.nodes.NodeList.{NodeList}
use Rattle.text.specs.Numbers.{number_in}
use Rattle.text.specs.Pieces.{parted}
use Rattle.text.specs.Spaced.{spaced}

abbrev pub headed : Option ℕ → Option (List ℕ) → Option (List ℕ)
headed (Some v) (Some vs) = Some (v ∷ vs)
headed (Some v) None = None
headed None o = None

-- the numbers that these words write, if each writes one up to the limit
abbrev pub numbers_in : ℕ → List (List ℕ) → Option (List ℕ)
numbers_in limit [] = Some []
numbers_in limit (w ∷ ws) = headed (number_in limit w) (numbers_in limit ws)

abbrev pub node_list_in : List ℕ → Option (List ℕ)
node_list_in bs = numbers_in 65535 (parted 32 bs)

-- what is kept of a list: its first eight nodes, and how many it has
abbrev pub kept : Option (List ℕ) → Option NodeList
kept None = None
kept (Some vs) = Some (record { nodes = take 8 vs; len = length vs })

-- the list of nodes up to 65535 whose text the bytes are, or that there is none
abbrev pub Listed : List ℕ → Option (List ℕ) → Type 0
Listed bs r = MatchOption r ((vs : List ℕ) → AllByRecursion (λ v. v ≤ 65535) vs → bs ≢ spaced vs) (λ vs. AllByRecursion (λ v. v ≤ 65535) vs × (bs ≡ spaced vs))
