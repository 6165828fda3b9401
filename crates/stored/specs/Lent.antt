-- What stands in the arrays before a call: no zeros, and no answer.
use Rattle.std.specs.Prelude.{List, ℕ, Float, replicate}
use Rattle.std.specs.Float.{binary32}
use Rattle.std.specs.Float.Ieee.{of_bits}

unfoldable pub lent_text : List ℕ
lent_text = replicate 4096 165

unfoldable pub lent_densities : List ℕ
lent_densities = replicate 2049 2779096485

unfoldable pub lent_spacing : List ℕ
lent_spacing = replicate 2049 165

-- 1.5 by its bits
unfoldable pub lent_beats : List Float
lent_beats = replicate 820 (of_bits binary32 1069547520)

unfoldable pub lent_work : List ℕ
lent_work = replicate 820 42405

unfoldable pub lent_notes : List ℕ
lent_notes = replicate 40960 165

unfoldable pub lent_figures : List ℕ
lent_figures = replicate 32 165

unfoldable pub lent_chart : List ℕ
lent_chart = replicate 3 165
