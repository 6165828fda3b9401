-- What printing on a page promises: the bytes appended, or that they have no room.
use Rattle.std.specs.Prelude.{◌≡◌, List, ℕ, ◌+◌, ◌<◌, ◌≤◌, ◌++◌, length, take, slice_index, Result, MatchResult}
use Rattle.page.specs.declared.Page.{Page}
use Rattle.page.specs.declared.Full.{Full}

-- what the slice of a page holds, and how many of its bytes are written
abbrev pub slice_of : Page → List ℕ
slice_of p = p.out.now

abbrev pub place_of : Page → ℕ
place_of p = p.at

-- which slice it is
abbrev pub name_of : Page → ℕ
name_of p = p.out.ghost_name

-- what is written so far
abbrev pub written : Page → List ℕ
written p = take p.at p.out.now

-- so many bytes more have no room
abbrev pub Overflows : Page → ℕ → Type 0
Overflows p n = length p.out.now < p.at + n

-- the same slice: what was written stays, and so does what stands past the place that is reached
pub record Keeps (old new : Page) : Type 0 where
  pub same_slice : new.out.ghost_name ≡ old.out.ghost_name
  pub size : length new.out.now ≡ length old.out.now
  pub further : old.at ≤ new.at
  pub before : (k : ℕ) → k < old.at → slice_index new.out.now k ≡ slice_index old.out.now k
  pub past : (k : ℕ) → new.at ≤ k → slice_index new.out.now k ≡ slice_index old.out.now k

-- the same slice, with these bytes after what was written
pub record Appends (old : Page) (bytes : List ℕ) (new : Page) : Type 0 where
  pub keeps : Keeps old new
  pub place : new.at ≡ old.at + length bytes
  pub contents : written new ≡ written old ++ bytes

-- the bytes are appended; or they have no room, and then what stands before the old place and from the new one on is as it was, and the bytes
-- between the two are left open
pub record Stops (old : Page) (bytes : List ℕ) (new : Page) : Type 0 where
  pub keeps : Keeps old new
  pub no_room : Overflows old (length bytes)

abbrev pub Prints : Page → List ℕ → Page → Result Unit Full → Type 0
Prints old bytes new r = MatchResult r (λ _. Appends old bytes new) (λ _. Stops old bytes new)
