-- A slot's word: e + 256 b + 65,536 r for 2^e addresses of record r, which is behind b bridges. Assumes nothing.
use Rattle.std.specs.Prelude.{ℕ, ◌+◌, ◌*◌, ◌/◌, ◌%◌, ◌^◌}

abbrev pub word_from : ℕ → ℕ → ℕ → ℕ
word_from exponent bridges number = exponent + 256 * bridges + 65536 * number

-- all but the exponent
abbrev pub word_end : ℕ → ℕ → ℕ
word_end bridges number = 256 * bridges + 65536 * number

abbrev pub record_in : ℕ → ℕ
record_in word = word / 65536 % 65536

abbrev pub bridges_in : ℕ → ℕ
bridges_in word = word / 256 % 256

abbrev pub size_in : ℕ → ℕ
size_in word = 2 ^ (word % 64)

-- every word is below it: 2^32
abbrev pub word_limit : ℕ
word_limit = 4294967296
