-- What a writer has written.
use Rattle.std.specs.Prelude.{◌≡◌, ℕ, List, ◌++◌, length, take, drop}
use Rattle.text.specs.declared.writer.Writer.{Writer}

-- the text so far, and the bytes past it
abbrev pub written : Writer → List ℕ
written w = take w.at w.buffer.now

abbrev pub past : Writer → List ℕ
past w = drop w.at w.buffer.now

abbrev pub room : Writer → ℕ
room w = length w.buffer.now

-- from one state of a writer to the next, these bytes were written, as far as there was room
pub record Wrote (was is : Writer) (bytes : List ℕ) : Type 0 where
  pub front : written is ≡ take (room was) (written was ++ bytes)
  pub back : past is ≡ drop (length bytes) (past was)
  pub same : room is ≡ room was
  pub lent : is.buffer.ghost_name ≡ was.buffer.ghost_name

-- a buffer with a text at its front
abbrev pub whole : List ℕ → List ℕ → List ℕ
whole buffer text = take (length buffer) text ++ drop (length text) buffer
