-- The grammar of path data (SVG 2, chapter "Paths"), as far as it is used here, by the names of its productions. Left out of them: the relative letters,
-- the letters H V S T A Z, a moveto after the first, several pairs behind one letter, fractions and exponents, numbers with nothing between them, the empty text.
use Rattle.path_data.specs.Language.{Language, symbol, range, ◌or◌, ◌then◌, optional, many, some}

abbrev pub wsp : Language
wsp = symbol "\t" or symbol " " or symbol "\n" or symbol "\u{c}" or symbol "\r"

abbrev pub comma_wsp : Language
comma_wsp = (some wsp then optional (symbol ",") then many wsp) or (symbol "," then many wsp)

abbrev pub sign : Language
sign = symbol "+" or symbol "-"

abbrev pub number : Language
number = some (range "0" "9")

abbrev pub coordinate : Language
coordinate = optional sign then number

abbrev pub coordinate_pair : Language
coordinate_pair = coordinate then comma_wsp then coordinate

abbrev pub coordinate_pair_double : Language
coordinate_pair_double = coordinate_pair then comma_wsp then coordinate_pair

abbrev pub coordinate_pair_triplet : Language
coordinate_pair_triplet = coordinate_pair then comma_wsp then coordinate_pair then comma_wsp then coordinate_pair

abbrev pub moveto : Language
moveto = symbol "M" then many wsp then coordinate_pair

abbrev pub lineto : Language
lineto = symbol "L" then many wsp then coordinate_pair

abbrev pub quadratic_bezier_curveto : Language
quadratic_bezier_curveto = symbol "Q" then many wsp then coordinate_pair_double

abbrev pub curveto : Language
curveto = symbol "C" then many wsp then coordinate_pair_triplet

abbrev pub drawto_command : Language
drawto_command = lineto or quadratic_bezier_curveto or curveto

abbrev pub svg_path : Language  -- white space may stand in front of every command
svg_path = many wsp then moveto then many (many wsp then drawto_command)
