pub mod Count_more
mod Tells_more
mod All_same
pub mod Used_in
pub mod Segment_ok
pub mod Next_after
mod Follows_is
mod Order_yes
