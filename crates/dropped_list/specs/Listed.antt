-- What is held of the rows that were read from the end of a text: the fates of heads above them, and their dropped heads, in order.
use Rattle.std.specs.Prelude.{◌≡◌, ◌≢◌, List, ◌++◌, ℕ, ◌+◌, ◌*◌, ◌≤◌, ◌<◌, length, drop, slice_index_or}
use Rattle.definitions.specs.Lines.{Row}
use Rattle.definitions.specs.Notes.{effect_at}
use Rattle.definitions.specs.Dropped.{decides, fate_of, if_dropped, cell_drops, drops_from, dropped_records}
use Rattle.definitions.specs.declared.DroppedHead.{DroppedHead}
use Rattle.definitions.specs.declared.Fate.{Fate}
use Rattle.definitions.specs.declared.Fate.TheVariants.{ClosedAt}
use Rattle.dropped_list.specs.declared.Listing.{Listing}

-- the fate of a head in a column
abbrev pub fate_in : Listing → ℕ → Fate
fate_in s c = slice_index_or s.fates c (ClosedAt 0)

-- the records from the list's first on are those of these heads
abbrev pub Lists : Listing → List ℕ → List DroppedHead → Type 0
Lists s list ds = drop (s.first * 10) list ≡ dropped_records ds

-- What stays while a record is put in front of the list, or none.
pub record Longer (s : Listing) (list : List ℕ) (s' : Listing) (list' : List ℕ) : Type 0 where
  pub fewer : s'.first ≤ s.first
  pub one : s.first ≤ s'.first + 1
  pub same_length : length list' ≡ length list

-- A head with that fate was met.
pub record HeadListed (fate : Fate) (row column : ℕ) (s : Listing) (list : List ℕ) (s' : Listing) (list' : List ℕ) : Type 0 where
  pub longer : Longer s list s' list'
  pub fates : s'.fates ≡ s.fates
  pub heads : (ds : List DroppedHead) → Lists s list ds → Lists s' list' (if_dropped row column fate ++ ds)

-- A cell of a row was met: it tells the fate of its column, and stands in the list where it is a dropped head.
pub record CellListed (b row column : ℕ) (s : Listing) (list : List ℕ) (s' : Listing) (list' : List ℕ) : Type 0 where
  pub longer : Longer s list s' list'
  pub fate : fate_in s' column ≡ decides (effect_at b) row (fate_in s column)
  pub others : (c : ℕ) → c ≢ column → fate_in s' c ≡ fate_in s c
  pub heads : (ds : List DroppedHead) → Lists s list ds → Lists s' list' (cell_drops (effect_at b) row column (fate_in s column) ++ ds)

-- of rows numbered from i, the last of a text
pub record Listed (L i : ℕ) (rows : List Row) (s : Listing) (list : List ℕ) : Type 0 where
  pub fates : (c : ℕ) → c < L → fate_in s c ≡ fate_of c i rows
  pub heads : Lists s list (drops_from i rows)
