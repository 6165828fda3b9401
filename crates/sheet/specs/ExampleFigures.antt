-- Figures and records for the examples of the fuller forms; the last record cannot be read.
use Rattle.std.specs.Prelude.{ℕ, List, [], ◌∷◌, ◌++◌}
use Rattle.definitions.specs.declared.ArrowStats.{ArrowStats}
use Rattle.sheet.specs.declared.SheetFigures.{SheetFigures}

-- a tally
abbrev tally : (a b c d e f g h i j k l m n o p q : ℕ) → ArrowStats
tally a b c d e f g h i j k l m n o p q =
    record {
      total_arrows = a;
      left = b;
      down = c;
      up = d;
      right = e;
      total_steps = f;
      jumps = g;
      hands = h;
      mines = i;
      holds = j;
      rolls = k;
      lifts = l;
      fakes = m;
      holding = n;
      keysounds = o;
      up_left = p;
      up_right = q;
    }

abbrev pub figures : SheetFigures
figures =
    record {
      chart =
          record {
            bytes = 0;
            measures = 2;
            rows = 20;
            notes = 3;
            last_bits = 0;
            last_row = 721;
            stats = tally 17 5 4 3 6 12 1 0 7 1 2 8 9 10 45 48 49;
          };
      kept = record { bytes = 0; measures = 0; rows = 0; stats = tally 11 12 13 14 15 16 17 18 19 20 21 22 23 24 46 50 51 };
      judged = tally 31 32 33 34 35 36 37 38 39 40 41 42 43 44 47 52 53;
    }

abbrev pub records : List ℕ
records = (0 ∷ 0 ∷ 0 ∷ 0 ∷ 255 ∷ 255 ∷ 255 ∷ 255 ∷ 2 ∷ 0 ∷ []) ++ ((12 ∷ 0 ∷ 0 ∷ 0 ∷ 15 ∷ 0 ∷ 0 ∷ 0 ∷ 3 ∷ 1 ∷ []) ++ (0 ∷ 0 ∷ 0 ∷ 0 ∷ 0 ∷ 0 ∷ 0 ∷ 0 ∷ 0 ∷ 9 ∷ []))
