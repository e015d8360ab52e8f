-- What the code's pool and settings mean. Assumes nothing.
use Rattle.std.specs.Prelude.{◌≡◌, ℕ, ◌<◌, true, List}
use Rattle.rules.specs.Calendar.{Pool as Meaning}
use Rattle.rules.specs.Closed.{word_bit}
use Rattle.rules.specs.Configure.{Request, byte_bit, bitmap_ok}
use Rattle.pool.specs.Meant.{meant}
use Rattle.pool.specs.declared.Pool.{Pool}
use Rattle.pool.specs.declared.Settings.{Settings}
use Rattle.pool.specs.declared.Bitmap.{Bitmap}

-- the pool that a value of the code's type stands for
abbrev pub meaning : Pool → Meaning
meaning p = meant p.channels p.uplink p.offsets.used p.offsets.places p.bitmap.size p.bitmap.words p.intervals p.levels

-- the pool that settings ask for
abbrev pub asked : Settings → Request
asked s =
    record {
      channels = s.channels;
      uplink = s.uplink;
      count = s.used;
      offsets = s.offsets;
      size = s.size;
      bitmap = s.bitmap;
      mask = s.intervals;
      levels = s.levels;
    }

-- the bitmap has the length and the bits of the bytes, which are a bitmap of that length
pub record SameBits (size : ℕ) (bytes : List ℕ) (b : Bitmap) : Type 0 where
  pub ok : bitmap_ok size bytes ≡ true
  pub length : b.size ≡ size
  pub bits : (i : ℕ) → i < 128 → word_bit b.words i ≡ byte_bit bytes i
