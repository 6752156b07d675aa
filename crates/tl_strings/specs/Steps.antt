-- Steps at slots: what a slot's bit becomes, by its own bit, those beside it and a coin.
use Rattle.std.specs.Prelude.{ℕ, ◌-◌, Bool, true, false, not, ◌&&◌, ◌||◌, ◌==◌, if◌then◌else◌, List}
use Rattle.tl_strings.specs.Strings.{string_bit}

-- exactly one of the two
abbrev pub differ : Bool → Bool → Bool
differ true b = not b
differ false b = b

-- The bit of a slot after a step: changed where the coin is 1 and all edges to it are crossed, or the coin is 0 and all edges
-- from it are. Slots that aren't free keep theirs.
abbrev pub stepped_bit : Bool → Bool → Bool → Bool → Bool → Bool
stepped_bit here all_to all_from coin is_free = differ here (is_free && (if coin then all_to else all_from))

-- Squares: the edges to the left and to the right, and those up and down. On the left of class 0, and on the right of class 1,
-- an edge is crossed where the two bits are the same; on the other three, where they differ.
abbrev pub across : Bool → Bool → Bool → Bool → Bool
across is_odd here west east = if is_odd then differ west here && not (differ east here) else not (differ west here) && differ east here

abbrev pub upright : Bool → Bool → Bool → Bool
upright here north south = differ north here && differ south here

abbrev pub square_bit : Bool → Bool → Bool → Bool → Bool → Bool → Bool → Bool → Bool
square_bit is_odd here west east north south coin is_free =
    if is_odd
    then stepped_bit here (upright here north south) (across is_odd here west east) coin is_free
    else stepped_bit here (across is_odd here west east) (upright here north south) coin is_free

-- Triangles: the three edges to a slot of a class come from the class after it, and the three from it lead to the one after
-- that. They are crossed where the bits differ, but from class 1 to class 0 where they are the same.
abbrev pub all_three : Bool → Bool → Bool → Bool → Bool → Bool
all_three is_turned here first second third =
    differ (differ first here) is_turned && differ (differ second here) is_turned && differ (differ third here) is_turned

abbrev pub triangle_bit : ℕ → Bool → Bool → Bool → Bool → Bool → Bool → Bool → Bool → Bool → Bool
triangle_bit class here west north_east south_east east north_west south_west coin is_free =
    stepped_bit here (all_three (class == 0) here west north_east south_east) (all_three (class == 1) here east north_west south_west) coin is_free

-- The coin of a slot: that of the corner whose low slot it is, or whose high slot, which is the next.
abbrev pub coin_bit : ℕ → List ℕ → List ℕ → ℕ → ℕ → Bool
coin_bit height coins lows row slot =
    (string_bit height coins row slot && string_bit height lows row slot)
    || (string_bit height coins row (slot - 1) && string_bit height lows row (slot - 1))
