-- The bytes of an image, by the Netpbm PBM formats: a head, and then each row, in the plain format in lines of at most
-- 70 characters, in the raw one in bytes of eight pixels.
use Rattle.std.specs.Prelude.{ℕ, pos, ◌+◌, ◌-◌, ◌*◌, ◌/◌, ◌%◌, ◌^◌, Bool, ◌&&◌, nat_lt, sum_by, List, [], ◌∷◌, ◌++◌, map, length, take, drop, codes, decimal, if◌then◌else◌}
use Rattle.std.specs.List.{flat_map, range_with_len}
use Rattle.tb_geom.specs.Points.{PixelSet}
use Rattle.bit_map.specs.Images.{Image}

-- the character of a pixel: 1 is black, 0 is white
abbrev pub digit_of : Bool → ℕ
digit_of is_black = if is_black then 49 else 48

-- the characters of row v, from left to right
unfoldable pub row_digits : ℕ → PixelSet → ℕ → List ℕ
row_digits width black v = map (λ h. digit_of (black (record { h = pos h; v = pos v }))) (range_with_len 0 width)

-- how many lines of 70 a row of this width takes
abbrev pub line_count : ℕ → ℕ
line_count width = (width + 69) / 70

-- line k of a row: 70 of its characters from the (70 * k)-th on, or as many as are left, and a newline
unfoldable pub line_text : List ℕ → ℕ → List ℕ
line_text digits k = take 70 (drop (70 * k) digits) ++ 10 ∷ []

-- row v, line by line
unfoldable pub row_text : ℕ → PixelSet → ℕ → List ℕ
row_text width black v = flat_map (line_text (row_digits width black v)) (range_with_len 0 (line_count width))

-- the format's name, the width and the height
abbrev pub head_text : List ℕ → ℕ → ℕ → List ℕ
head_text name width height = name ++ (codes "\n" ++ (decimal width ++ (codes " " ++ (decimal height ++ codes "\n"))))

-- an image of a character for each pixel, the top row first
unfoldable pub p1 : ℕ → ℕ → PixelSet → List ℕ
p1 width height black = head_text (codes "P1") width height ++ flat_map (row_text width black) (range_with_len 0 height)

-- what the pixel in column h of row v adds to its byte: a black one the value of its bit, of which the leftmost is the
-- highest, and a white one 0. Past the width each pixel is white
abbrev pub column_value : ℕ → PixelSet → ℕ → ℕ → ℕ
column_value width black v h = if nat_lt h width && black (record { h = pos h; v = pos v }) then 2 ^ (7 - h % 8) else 0

-- byte k of row v: the sum over its eight columns
unfoldable pub row_byte : ℕ → PixelSet → ℕ → ℕ → ℕ
row_byte width black v k = sum_by (column_value width black v) (range_with_len (8 * k) 8)

-- row v, in as many bytes as its pixels take
unfoldable pub row_bytes : ℕ → PixelSet → ℕ → List ℕ
row_bytes width black v = map (row_byte width black v) (range_with_len 0 ((width + 7) / 8))

-- an image of a bit for each pixel, the top row first
unfoldable pub p4 : ℕ → ℕ → PixelSet → List ℕ
p4 width height black = head_text (codes "P4") width height ++ flat_map (row_bytes width black) (range_with_len 0 height)

-- what stands behind the head of such an image, as a bit image
abbrev pub raster : ℕ → ℕ → PixelSet → Image
raster width height black =
    let head = head_text (codes "P4") width height in
    record { width = width; height = height; rows = drop (length head) (p4 width height black) }
