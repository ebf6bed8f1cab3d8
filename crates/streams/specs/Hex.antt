-- A word in hexadecimal.
use Rattle.std.specs.Prelude.{ℕ, ◌^◌, ◌-◌, false, List, []}
use Rattle.std.specs.Fmt.{digits, padded_integral, format_spec}

-- its digits, with zeros before them up to eight: what `{:08x}` writes
abbrev pub eight_digits : ℕ → List ℕ
eight_digits w = padded_integral (format_spec 32 0 4 8 (2 ^ 64 - 1)) false [] (digits 16 false w)
