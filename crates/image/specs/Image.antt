-- What the bytes of an image mean: 513 bytes a sector, a mark and then the sector's 512 bytes. Assumes nothing.
use Rattle.std.specs.Prelude.{ℕ, ◌+◌, ◌*◌, ◌/◌, min, Bool, true, false, cond, List, ◌∷◌, ◌++◌, length, take, drop, Some, None, Option, ◌==◌, nat_lt, slice_index}
use Rattle.std.specs.Str.{bytes_eq}
use Rattle.device.specs.Meaning.{Reading, bytes, torn, Contents}

-- as many sectors as lie whole in the image, and no more than 65,536: any bytes over lie unused
abbrev pub size_of : List ℕ → ℕ
size_of image = min (length image / 513) 65536

-- the sector whose mark stands at `at`: readable where the mark is 0, else torn
abbrev pub reading_at : List ℕ → ℕ → Reading
reading_at image at = cond (slice_index image at == 0) (bytes (take 512 (drop (at + 1) image))) torn

unfoldable pub reading : List ℕ → ℕ → Reading
reading image s = reading_at image (s * 513)

-- past the image there is nothing to read
abbrev pub seen : List ℕ → ℕ → Reading
seen image s = cond (nat_lt s (size_of image)) (reading image s) torn

-- the image with `new` put down at `at`: mark 0, then the bytes
abbrev pub list_put_at : List ℕ → ℕ → List ℕ → List ℕ
list_put_at image at new = take at image ++ (0 ∷ (new ++ drop (at + 513) image))

-- whether two readings are one
unfoldable pub same : Reading → Reading → Bool
same (bytes xs) (bytes ys) = bytes_eq xs ys
same (bytes xs) torn = false
same torn (bytes ys) = false
same torn torn = true

-- the set that holds `x` alone
abbrev pub only : Reading → Contents
only x = λ y. same y x

-- a read of a sector that reads so: its bytes, or none; and what a buffer then holds that they are copied into
abbrev pub bytes_of : Reading → Option (List ℕ)
bytes_of (bytes b) = Some b
bytes_of torn = None

abbrev pub filled : List ℕ → Reading → List ℕ
filled old (bytes b) = b
filled old torn = old
