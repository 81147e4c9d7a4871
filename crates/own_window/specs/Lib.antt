pub mod Banners
