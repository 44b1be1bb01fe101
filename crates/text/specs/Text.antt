-- What files are written with and answers printed with, byte by byte. Source: document 01, "The run file and its program": numbers are decimal without leading
-- zeros, in a file at most 4,294,967,295; fields are separated by one space, every line ends in LF; the runner prints code, a and b.
use Rattle.std.specs.Prelude.{ℕ, zero, suc, ◌+◌, ◌/◌, ◌%◌, List, [], ◌∷◌, ◌++◌, cond, ℤ, pos, negsuc, ltb}
use Prim.Native.Char.{code}

-- LF
abbrev pub line_end : ℕ
line_end = code "\n"

abbrev pub space : ℕ
space = code " "

abbrev pub minus : ℕ
minus = code "-"

-- the digits of n, at most as many as the first number says; 0 to 9 are 48 to 57
unfoldable pub digits : ℕ → ℕ → List ℕ
digits zero n = []
digits (suc most) n = cond (ltb n 10) ((48 + n) ∷ []) (digits most (n / 10) ++ ((48 + n % 10) ∷ []))

-- n has no more than n + 1 digits
unfoldable pub decimal : ℕ → List ℕ
decimal n = digits (suc n) n

-- the largest number of a file
abbrev pub number_most : ℕ
number_most = 4294967295

-- a number below zero has a minus in front
abbrev pub signed_text : ℤ → List ℕ
signed_text (pos n) = decimal n
signed_text (negsuc n) = minus ∷ decimal (suc n)

abbrev pub answer_text : ℕ → ℕ → ℤ → List ℕ
answer_text code a b = decimal code ++ (space ∷ []) ++ decimal a ++ (space ∷ []) ++ signed_text b ++ (line_end ∷ [])

-- the length of the longest answer with a code of at most three digits, an a of 32 bits and a b of 64
abbrev pub answer_most : ℕ
answer_most = 36

-- codes have at most three digits
abbrev pub codes_below : ℕ
codes_below = 1000
