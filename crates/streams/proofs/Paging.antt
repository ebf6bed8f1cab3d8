-- Bytes that a writer holds, and those of a page that is to follow them. Assumes nothing.
use Rattle.std.proofs.Common.{◌≡◌, ℕ, List, ◌++◌, Option, None, Some, Result, Ok, Err, OnOk, take, ap, ◌∙◌, append-nil}
use Rattle.std.specs.Io.KnownBytes.{Appends, Keeps, append_known}

known : (a b c : Option (List ℕ)) (end : ℕ) (room bytes : List ℕ) → Keeps a b → end ≡ 0 → Appends b c bytes → Appends a (append_known c (take end room)) bytes
known None b c end room bytes k e p = tt
known (Some x) None c end room bytes k e p = absurd k
known (Some x) (Some y) None end room bytes k e p = absurd p
known (Some x) (Some y) (Some z) end room bytes k e p = rw (e, append-nil) (p ∙ ap (λ l. l ++ bytes) k)

-- nothing is on the page, and bytes are written past it
pub written_past : {A E : Type 0} (r : Result A E) (a b c : Option (List ℕ)) (end : ℕ) (room bytes : List ℕ)
    → Keeps a b → end ≡ 0 → OnOk r (Appends b c bytes) → OnOk r (Appends a (append_known c (take end room)) bytes)
written_past (Ok x) a b c end room bytes k e p = known a b c end room bytes k e p
written_past (Err x) a b c end room bytes k e p = p
