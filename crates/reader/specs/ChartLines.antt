-- What the lines that a chart's iterator gives are marks of.
use Rattle.std.specs.Prelude.{Option, Some, None, List, map}
use Rattle.definitions.specs.Lines.{Row}
use Rattle.reader.specs.declared.charts.ChartLine.{ChartLine}
use Rattle.reader.specs.declared.charts.ChartLine.TheVariants as line
use Rattle.reader.specs.Marks.{Held, held}

abbrev pub mark_of : ChartLine → Option Row
mark_of (line.Row r) = Some r.now
mark_of line.Comma = None

-- the measures that have ended and the open one, of lines that have come
abbrev pub held_of : List ChartLine → Held
held_of ls = held (map mark_of ls)
