-- The bytes that stand between words and lines, and in names.
use Rattle.std.specs.Prelude.{ℕ}

-- what ends a line
abbrev pub line_feed : ℕ
line_feed = 10

-- what stands between two words
abbrev pub space : ℕ
space = 32

-- `-`, the name that a row of an idle leaf shows
abbrev pub hyphen : ℕ
hyphen = 45

-- `.`, which stands for an idle tick in a chart
abbrev pub full_stop : ℕ
full_stop = 46

-- `_`
abbrev pub underscore : ℕ
underscore = 95

-- `%`, two of which divide sets
abbrev pub percent : ℕ
percent = 37
