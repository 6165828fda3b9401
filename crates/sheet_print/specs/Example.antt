-- What the form `print` prints for some figures, densities, spacings and records; the last record cannot be read; `|` is byte 10.
use Rattle.std.specs.Prelude.{◌≡◌, [], ◌∷◌}
use Rattle.definitions.specs.Examples.{bytes}
use Rattle.sheet.specs.ExampleFigures.{figures, records}
use Rattle.sheet_print.specs.Print.{print_of}

abbrev pub PrintExample : Type 0
PrintExample =
    print_of figures (5 ∷ 12 ∷ []) (1 ∷ 0 ∷ []) records
    ≡ bytes "measures            2|rows               20|notes               3|last beat          15 + 1/48|in 48ths          721||                 main     kept   judged|total_arrows       17       11       31|left                5       12       32|down                4       13       33|up                  3       14       34|right               6       15       35|total_steps        12       16       36|jumps               1       17       37|hands               0       18       38|mines               7       19       39|holds               1       20       40|rolls               2       21       41|lifts               8       22       42|fakes               9       23       43|holding            10       24       44|keysounds          45       46       47|up_left            48       50       52|up_right           49       51       53||densities, 16 measures to a line; = equally spaced, - not|      0:  5= 12-||holds and rolls|          row   column     tail|hold       12        3       15|"
