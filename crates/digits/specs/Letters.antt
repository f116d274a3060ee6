-- The codes of the letters, signs and digits that the program prints (heading "`clampcheck`"; ASCII).
use Rattle.std.specs.Prelude.{ℕ, ◌+◌}

abbrev pub a : ℕ
a = 97

abbrev pub c : ℕ
c = 99

abbrev pub d : ℕ
d = 100

abbrev pub e : ℕ
e = 101

abbrev pub f : ℕ
f = 102

abbrev pub g : ℕ
g = 103

abbrev pub i : ℕ
i = 105

abbrev pub l : ℕ
l = 108

abbrev pub m : ℕ
m = 109

abbrev pub n : ℕ
n = 110

abbrev pub o : ℕ
o = 111

abbrev pub p : ℕ
p = 112

abbrev pub r : ℕ
r = 114

abbrev pub s : ℕ
s = 115

abbrev pub t : ℕ
t = 116

abbrev pub u : ℕ
u = 117

abbrev pub v : ℕ
v = 118

abbrev pub y : ℕ
y = 121

abbrev pub space : ℕ
space = 32

abbrev pub dot : ℕ
dot = 46

abbrev pub newline : ℕ
newline = 10

-- the digit of a number below 10
abbrev pub digit : ℕ → ℕ
digit k = 48 + k
